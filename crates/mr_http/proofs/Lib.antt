pub mod BodyLemmas
pub mod Digits
pub mod FieldLemmas
pub mod HeadLemmas
pub mod Known
pub mod ReadPieces
pub mod SentPieces
