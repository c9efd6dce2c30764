-- The result of `jiff`'s reader of zone files is the zone of the definition, or that there is none.
use Rattle.std.proofs.Common.{◌≡◌, ℕ, suc, ◌-◌, true, false, List, [], ◌∷◌, get_or, length, map, Option, Some, None, Ok, Err, inl, inr, refl, arith}
use Rattle.std.specs.Bool.{Decides}
use Rattle.std.specs.Option.{option_map, IfSome}
use Rattle.std.proofs.lemmas.Bool.{and_parts}
use Rattle.std.proofs.lemmas.Bool.Decides.{Decides-int_eq}
use Rattle.std.proofs.lemmas.Slice.Eq.{bytes_eq-Decides}
use Rattle.jiff_core.specs.declared.error.TzifFault.{TzifFault}
use Rattle.jiff_core.specs.declared.error.Error.TheVariants.{Tzif as TzifError}
use Rattle.jiff_core.specs.Timestamp.{nanos_of_seconds}
use Rattle.jiff_tz.specs.declared.info.Dst.{Dst}
use Rattle.jiff_tz.specs.declared.info.Dst.TheVariants.{Yes, No}
use Rattle.jiff_tz.specs.declared.posix.TimeZone.{TimeZone}
use Rattle.jiff_tz.specs.declared.tzif.Tzif.{Tzif}
use Rattle.jiff_tz.specs.PosixRule.{match_some, info_at}
use Rattle.jiff_tz.specs.PosixText.{tz_view}
use Rattle.jiff_tz.specs.Tzif.{tzif_view, RuleAgrees, IsParseFailure}
use Rattle.jiff_tz.specs.TzifAgree.{FooterAgrees, RowAgrees}
use Rattle.jiff_tz.specs.TzifReader.{TzifText, read_tzif}
use Rattle.jiff_tz.specs.TzifText.{TypeText, TransitionText, no_row, transition_text}
use Rattle.zone_time.specs.declared.zone.Zone.TheVariants.{File}
use Rattle.zone_time.specs.declared.zone_fault.ZoneFault.TheVariants.{BadZone}
use Rattle.zone_time.specs.ZoneFiles.{same_flag, same_type, rule_type, goes_on, is_consistent}
use Rattle.zone_time.specs.Zones.{zone_of}
use Rattle.zone_time.proofs.ZoneFileLemmas.{info_view, rule_type-info_at}

same_flag-Decides : (a b : Dst) → Decides (same_flag a b) (a ≡ b)
same_flag-Decides Yes Yes = (λ e. refl, λ e. refl)
same_flag-Decides Yes No = (λ e. cc, λ e. cc)
same_flag-Decides No Yes = (λ e. cc, λ e. cc)
same_flag-Decides No No = (λ e. refl, λ e. refl)

-- the parts of two equal clock types are equal
abbrev IsSameType : TypeText → TypeText → Type 0
IsSameType a b = (a.seconds ≡ b.seconds) × (a.dst ≡ b.dst) × (a.name ≡ b.name)

same_type-Decides : (a b : TypeText) → Decides (same_type a b) (IsSameType a b)
same_type-Decides a b = (
  λ h. let all = and_parts _ _ h in let front = and_parts _ _ all.0 in
      ((Decides-int_eq a.seconds b.seconds).0 front.0, (same_flag-Decides a.dst b.dst).0 front.1, (bytes_eq-Decides a.name b.name).0 all.1),
  λ h. rw ((Decides-int_eq a.seconds b.seconds).1 h.0, (same_flag-Decides a.dst b.dst).1 h.1, (bytes_eq-Decides a.name b.name).1 h.2),
)

row-Decides : (tz : TimeZone) (row : TransitionText) → Decides (same_type (rule_type (tz_view tz) row.second) row.after) (RowAgrees tz row)
row-Decides tz row = rw (rule_type-info_at tz row.second)
    (same_type-Decides (info_view (info_at tz (nanos_of_seconds row.second))) row.after)

-- the last of two rows or more is that of the rows after the first
last_of_more : (row next : TransitionText) (rows : List TransitionText)
    → get_or (row ∷ next ∷ rows) (length (row ∷ next ∷ rows) - 1) no_row
    ≡ get_or (next ∷ rows) (length (next ∷ rows) - 1) no_row
last_of_more row next rows =
    let first : suc (suc (length rows)) - 1 ≡ suc (length rows) = omega arith in
    let second : suc (length rows) - 1 ≡ length rows = omega arith in
    rw (first, second)

pub goes_on-Decides : (tz : TimeZone) (rows : List TransitionText) → Decides (goes_on (tz_view tz) rows) (FooterAgrees rows tz)
unfolding goes_on
goes_on-Decides tz [] = (λ e none. absurd (omega arith), λ e. refl)
goes_on-Decides tz (row ∷ []) = (
  λ h some. (row-Decides tz row).0 h,
  λ agrees. (row-Decides tz row).1 (agrees (omega arith)),
)
goes_on-Decides tz (row ∷ next ∷ rows) =
    let rest = goes_on-Decides tz (next ∷ rows) in
    let last = last_of_more row next rows in (
      λ h some. rw last (rest.0 h (omega arith)),
      λ agrees. rest.1 (λ some. rw last at (agrees (omega arith))),
    )

consistent_by : (o : Option TimeZone) (rows : List TransitionText) → IfSome o (λ tz. FooterAgrees rows tz)
    → match_some (option_map tz_view o) true (λ rule. goes_on rule rows) ≡ true
consistent_by None rows h = refl
consistent_by (Some tz) rows h = (goes_on-Decides tz rows).1 h

is_consistent-tzif_view : (z : Tzif) → RuleAgrees z → is_consistent (tzif_view z) ≡ true
unfolding is_consistent
is_consistent-tzif_view z h = consistent_by z.posix_tz (map transition_text z.transitions.items) h

pub zone_of-read : (bytes : List ℕ) (z : Tzif) → read_tzif bytes ≡ Ok (tzif_view z) → RuleAgrees z → zone_of bytes ≡ Ok (File (tzif_view z))
unfolding zone_of
zone_of-read bytes z read agrees = rw (read, is_consistent-tzif_view z agrees)

inconsistent : (text : TzifText) (rule : TimeZone) → text.rule ≡ Some (tz_view rule)
    → (FooterAgrees text.transitions rule → ⊥) → is_consistent text ≡ false
unfolding is_consistent
inconsistent text rule is disagrees =
    rw is (elim (goes_on (tz_view rule) text.transitions) as (λ v. goes_on (tz_view rule) text.transitions ≡ v → v ≡ false) [
      | true ↦ λ e. absurd (disagrees ((goes_on-Decides rule text.transitions).0 e))
      | false ↦ λ e. refl
    ] refl)

pub zone_of-refused : (bytes : List ℕ) (fault : TzifFault) → IsParseFailure (TzifError fault) bytes → zone_of bytes ≡ Err BadZone
unfolding zone_of
zone_of-refused bytes fault (inl (inl e)) = cc
zone_of-refused bytes fault (inl (inr f)) = rw f.1
zone_of-refused bytes fault (inr bad) =
    let rule = bad.1 in rw (rule.read, inconsistent rule.text rule.rule rule.is_rule rule.disagrees)
