-- What the proof of the loop over the cashflows uses.
mod Flowing
