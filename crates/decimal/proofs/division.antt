-- What the proof of `nearest` uses.
mod Rounding
