-- The theorems whose statements stand in specs.
pub mod laws
