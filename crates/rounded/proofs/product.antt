-- What the proof of `product` uses: laws on plain numbers.
mod Columns
