pub mod ScanLemmas
pub mod TableLemmas
pub mod OpenLemmas
