pub mod PeakLineReading
