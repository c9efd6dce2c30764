mod TableChecks
mod DegreeSlopes
mod CircleSlopes
mod SlopeLaws
mod WaveGaps
mod YearGaps
mod YearFits
