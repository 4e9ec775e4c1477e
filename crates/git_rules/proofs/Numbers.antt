-- Numbers as digits write them: the effect of more digits, and the numbers that Git can hold.
pub mod DigitLemmas
