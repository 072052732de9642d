-- What the proof of `split` uses: laws on a double's fields and on its digits.
mod Fields
