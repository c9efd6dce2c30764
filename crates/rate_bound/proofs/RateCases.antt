-- The rate of a curve by the stretch of the cell.
use Rattle.std.proofs.Common.{◌≡◌, ℕ, ap, ℤ}
use Rattle.year_blend.specs.declared.parts.Stretch.{Stretch}
use Rattle.rate_bound.specs.declared.version.Version.{Version}
use Rattle.rate_bound.specs.Rates.{slope_rate_in, level_rate_in, book_sums, predicted_level_rate, predicted_slope_rate}
use Rattle.harmonics_book.specs.declared.book.Book.{Book}
use Rattle.harmonics_book.specs.declared.book.Station.{Station}
use Rattle.year_blend.specs.Stretches.{stretch_of}

pub slope_rate-at : (version : Version) (b : Book) (s : Station) (a : ℤ) (n : ℕ) (stretch : Stretch)
    → stretch ≡ stretch_of b.first_year b.years a n
    → slope_rate_in version (book_sums b s) stretch ≡ predicted_slope_rate version b s a n
unfolding predicted_slope_rate
slope_rate-at version b s a n stretch at = ap (slope_rate_in version (book_sums b s)) at

pub level_rate-at : (version : Version) (times : ℤ) (b : Book) (s : Station) (a : ℤ) (n : ℕ) (stretch : Stretch)
    → stretch ≡ stretch_of b.first_year b.years a n
    → level_rate_in version times (book_sums b s) stretch ≡ predicted_level_rate version times b s a n
unfolding predicted_level_rate
level_rate-at version times b s a n stretch at = ap (level_rate_in version times (book_sums b s)) at
