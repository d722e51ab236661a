-- What the laws of written rows speak of.
pub mod Fitting
pub mod Everywhere
