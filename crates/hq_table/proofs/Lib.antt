mod Committing
mod Inserting
mod Making
mod Parts
mod Places
mod Scanned
mod Sharing
