pub mod Approximate
pub mod SampleLaws
