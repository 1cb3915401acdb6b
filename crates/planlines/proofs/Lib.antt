-- What the program's proofs cite.
mod Spellings
