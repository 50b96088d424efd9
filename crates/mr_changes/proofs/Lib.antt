pub mod FindLemmas
pub mod IndexLemmas
pub mod PutLemmas
pub mod StepLemmas
