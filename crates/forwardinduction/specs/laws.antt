-- The laws of the fit that others may cite.
pub mod FitSteps
pub mod Exps
pub mod Advances
pub mod Placing
pub mod FitPlaces
pub mod FitMore
pub mod Found
pub mod Fitting
pub mod LaidFront
pub mod FitLaid
