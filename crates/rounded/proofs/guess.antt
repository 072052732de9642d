-- What the proof of `guess` uses: which bits and which tests rule out a NaN.
mod Patterns
