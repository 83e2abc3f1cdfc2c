mod Lists
mod Meets
