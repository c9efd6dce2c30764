-- The sines of whole degrees in billionths (a table of natural sines), and the correction between them
-- (Bessel's interpolation formula).
use Rattle.std.specs.Prelude.{ℕ, suc, ◌+◌, ◌-◌, ℤ, pos, negsuc, neg_ℤ, ◌+ℤ◌, ◌-ℤ◌, List, [], ◌∷◌, slice_index, nat_le, if◌then◌else◌}

-- the sines of the whole degrees from 0 to 90, in billionths, rounded to whole numbers
unfoldable pub sines : List ℕ
sines =
    0 ∷ 17452406 ∷ 34899497 ∷ 52335956 ∷ 69756474 ∷
    87155743 ∷ 104528463 ∷ 121869343 ∷ 139173101 ∷ 156434465 ∷
    173648178 ∷ 190808995 ∷ 207911691 ∷ 224951054 ∷ 241921896 ∷
    258819045 ∷ 275637356 ∷ 292371705 ∷ 309016994 ∷ 325568154 ∷
    342020143 ∷ 358367950 ∷ 374606593 ∷ 390731128 ∷ 406736643 ∷
    422618262 ∷ 438371147 ∷ 453990500 ∷ 469471563 ∷ 484809620 ∷
    500000000 ∷ 515038075 ∷ 529919264 ∷ 544639035 ∷ 559192903 ∷
    573576436 ∷ 587785252 ∷ 601815023 ∷ 615661475 ∷ 629320391 ∷
    642787610 ∷ 656059029 ∷ 669130606 ∷ 681998360 ∷ 694658370 ∷
    707106781 ∷ 719339800 ∷ 731353702 ∷ 743144825 ∷ 754709580 ∷
    766044443 ∷ 777145961 ∷ 788010754 ∷ 798635510 ∷ 809016994 ∷
    819152044 ∷ 829037573 ∷ 838670568 ∷ 848048096 ∷ 857167301 ∷
    866025404 ∷ 874619707 ∷ 882947593 ∷ 891006524 ∷ 898794046 ∷
    906307787 ∷ 913545458 ∷ 920504853 ∷ 927183855 ∷ 933580426 ∷
    939692621 ∷ 945518576 ∷ 951056516 ∷ 956304756 ∷ 961261696 ∷
    965925826 ∷ 970295726 ∷ 974370065 ∷ 978147601 ∷ 981627183 ∷
    984807753 ∷ 987688341 ∷ 990268069 ∷ 992546152 ∷ 994521895 ∷
    996194698 ∷ 997564050 ∷ 998629535 ∷ 999390827 ∷ 999847695 ∷
    1000000000 ∷ []

-- the sine of a whole number of degrees, from -90 to 180, in billionths: the table mirrored at 90
-- degrees, and negated below 0 degrees; `negsuc k` is -(k + 1)
unfoldable pub sine_at : ℤ → ℤ
sine_at (pos k) = pos (slice_index sines (if nat_le k 90 then k else 180 - k))
sine_at (negsuc k) = neg_ℤ (pos (slice_index sines (suc k)))

-- the sine at k + 1 degrees minus the sine at k degrees, in billionths
abbrev pub rise : ℕ → ℤ
rise k = sine_at (pos (k + 1)) -ℤ sine_at (pos k)

-- the correction of the interpolation over the degree that begins at k degrees: the sum of the second
-- differences of the sine at both ends of the degree, in billionths
unfoldable pub correction : ℕ → ℤ
correction k =
    ((sine_at (pos (k + 2)) -ℤ sine_at (pos (k + 1))) -ℤ sine_at (pos k)) +ℤ sine_at (pos k -ℤ pos 1)
