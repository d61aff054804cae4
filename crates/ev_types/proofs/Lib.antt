pub mod AudienceLemmas
pub mod FeederLemmas
pub mod FieldsSettle
pub mod Samples
pub mod SectionLemmas
pub mod SectionsSettle
pub mod SettleLemmas
pub mod WriteLemmas
