mod Adding
mod Places
mod Removals
mod Ties
