-- What the proofs of the typed words use.
mod Beginning
