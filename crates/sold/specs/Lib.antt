-- What the functions of premiums and what they are to pay ask for and give, and the call's answer as document 02's.
pub mod Owed
pub mod Premiums
pub mod PremiumPlans
