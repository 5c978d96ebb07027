-- Laws of a claim's two fields as one, of claims that are given, of the loops over pairs and over risks, and of the file's runs of fields.
mod Claims
mod Run
mod Risks
mod FileFields
