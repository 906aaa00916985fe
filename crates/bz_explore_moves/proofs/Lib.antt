mod Listed
mod Members
mod Offered
mod Wanted
