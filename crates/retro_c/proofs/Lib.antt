-- From what the libraries say of a call to what its export says.
pub mod Exports
