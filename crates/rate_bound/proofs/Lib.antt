mod Parts
mod Naming
mod RateCases
mod SizeLemmas
