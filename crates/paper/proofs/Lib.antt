-- What is shown of the definitions of 01: laws for the proofs above, and the sample lots.
pub mod WordLaws
pub mod MeaningLaws
pub mod LimitLaws
pub mod SampleLots
