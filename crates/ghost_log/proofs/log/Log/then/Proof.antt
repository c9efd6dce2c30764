-- `then` makes the struct of no bytes, with the items of both. Assumes `Logic`.
use Rattle.std.proofs.Common.{[], ◌∷◌, ◌++◌, ◌<◌, ◌^◌, length, refl}
use seplogic.Ra.Ura.{Ura}
use mir.Syntax.{Fn, Args, a_type, named}
use mir.MapTy.{inst_fn}
use base.Logic.{SProp, ent}
use prog.Memory.{Memory}
use prog.Routine.{Routine}
use prog.Wp.{Calls, Loops, WpFn, Tables}
use types.Logic.{Logic}
use contract.Monad.{Fun}
use contract.Running.{tables, tables_of}
use sound.WpLaws.{WpFn-mono}
use types.Kit.{‵, raw, ◌⊛◌, ◌$◌, ◌∵◌, !, qed, move, keep, split, fjoin, suffices, done}
use types.Run.{and_then, no_more, returns, enter}
use types.Part.{agg}
use types.ByLocal.{alloc_all, pass_all, free_all, look_at, get, sets}
use denote.Builtin.{RefOf, SliceRefOf}
use denote.Exit.{yes}
use denote.Laws.{Is}
use denote.Param.{param, layouts}
use denote.RattleType.{RattleType, owns}
use denote.Ref.{shr_vals, shr_Tells}
use denote.Signature.{plain, types_at}
use denote.Slice.{shr_slice_vals, shr_slice_Tells}
use denote.Steps.{nothing, owned}
use denote.Struct.Laws.{makes}
use denote.Triple.Clauses.{Clauses, Ended, closing}
use denote.Triple.Entry.{alive}
use denote.Triple.Spec.{Meets, triple_of}
use denote.Triple.Table.{entered}
use denote.Triple.Walked.{says, Stays, stay_dropped, walk_of, ends_at, walked, walk_Meets, Goes-dropped}
use Rattle.std.specs.contracts.marker.PhantomData as Mark
use Rattle.ghost_log.proofs.Steps.{none, one, one_made}
use Rattle.ghost_log.specs.contracts.log.Log as Log
use Rattle.ghost_log.specs.contracts.log.Log.then as F
use Rattle.ghost_log.specs.contracts.log.Log.then.Key.{name as #self}
use Rattle.ghost_log.proofs.log.Log.then.Statement as stated
use Rattle.ghost_log.proofs.log.Log.then.Code as code

module _ (X : RattleType) where
  abbrev args : Args
  args = layouts (a_type ∷ []) (X, tt)

  abbrev function : Fn
  function = inst_fn args code.function

  abbrev ended : Ended
  ended = F.ended X

  abbrev mark : RattleType
  mark = Mark.the_row (param 0 X)

  abbrev stayed : Stays ended.signature.params ended.kept
  stayed = (stay_dropped (RefOf (0 ∷ []) tt (plain (λ _. Log.the_row (param 0 X))) (λ _. tt)) yes, (stay_dropped (SliceRefOf (1 ∷ []) tt (plain (λ _. param 0 X)) (λ _. tt)) yes, tt))

  module _ {M : Type 1} {𝓤 : Ura M} (𝓛 : Logic 𝓤) (at_mem : Memory → SProp 𝓤) (run : Routine → Fun 𝓤) where
    open 𝓛 use {H}

    abbrev held : Clauses 𝓤 ended
    held = F.clauses X 𝓛 at_mem run

    abbrev Bound : Type 0
    Bound = (walk_of 𝓛 ended stayed held).Ghost

    abbrev spelled : Bound → Bound
    spelled z = ((z.0.0, z.0.1, z.0.2, z.0.3, (shr_vals z.0.3.0, (shr_slice_vals z.0.3.1.0, tt))), z.1)

    walk : (C : Calls 𝓤 H) (Λ : Loops 𝓤 H) (z : Bound) → length z.0.3.1.0.now < 2 ^ 64
        → ent 𝓤 ((walk_of 𝓛 ended stayed held).pre (spelled z)) (WpFn 𝓤 H C Λ function ((walk_of 𝓛 ended stayed held).args (spelled z)) ((walk_of 𝓛 ended stayed held).post (spelled z)))
    walk C Λ z fits =
        let a = z.0.3 in
        let made : (Log.the_row (param 0 X)).Denot = record { of = record {}; items = a.0.now.items ++ a.1.0.now } in
        qed 𝓛 ((raw (alive 𝓛 ended.signature z.0.0 z.0.1) ⊛ ‵ (owns (types_at ended.signature.params z.0.0) a (spelled z).0.4)) ∷ raw ((held z.0.0 a).requires z.1) ∷ []) ∵
        keep ! (0 ∷ []) $ split ! $ keep ! (0 ∷ []) $
        enter ! C Λ function ((walk_of 𝓛 ended stayed held).args (spelled z)) _ $
        alloc_all ! (λ l. pass_all ! refl ((tt, tt), ((tt, (tt, (record { fits = fits }, tt))), tt)) $
        sets ! (agg ! (no_more !)) refl (tt, tt) $
        sets ! (agg ! (and_then ! (get ! refl) (no_more !))) refl (tt, (tt, tt)) $
        nothing ! $ owned ! mark (Is mark) (makes (Mark.the_type (param 0 X)) tt 𝓛) (record {}) (none ∷ []) (tt, (refl, tt)) $
        one_made ! mark (record {}) none $ fjoin ! $
        returns ! (look_at ! 0 refl) $ free_all ! refl $
        suffices ! _ (ends_at 𝓛 ended stayed held (spelled z) (one none) made (tt, (tt, tt)) (tt, (tt, tt))) $ says ! refl $
        nothing ! $ nothing ! $ fjoin ! $ nothing ! $ fjoin ! $ move ! (2 ∷ 0 ∷ 1 ∷ []) $ done !)

    meets : (𝓣 : Tables 𝓤 H) → Meets 𝓛 ended.signature (WpFn 𝓤 H 𝓣.C 𝓣.Λ function) (closing 𝓛 ended held)
    meets 𝓣 =
        walk_Meets 𝓛 ended stayed (
          Goes-dropped 𝓛 3 (RefOf (0 ∷ []) tt (plain (λ _. Log.the_row (param 0 X))) (λ _. tt)) yes (λ κs x f. refl),
          (Goes-dropped 𝓛 3 (SliceRefOf (1 ∷ []) tt (plain (λ _. param 0 X)) (λ _. tt)) yes (λ κs x f. refl), tt),
        ) held
        (WpFn 𝓤 H 𝓣.C 𝓣.Λ function) (WpFn-mono 𝓤 H 𝓛.laws 𝓣 function)
        (walked 𝓛 ended stayed held (WpFn 𝓤 H 𝓣.C 𝓣.Λ function) (λ κs. (shr_vals, (shr_slice_vals, tt)))
        (λ κs. (shr_Tells (named 0) κs.0 (Log.the_row (param 0 X)), (shr_slice_Tells (named 1) κs.1.0 (param 0 X), tt)))
        (λ κs qs bounds a g are. walk 𝓣.C 𝓣.Λ ((κs, qs, bounds, a, (shr_vals a.0, (shr_slice_vals a.1.0, tt))), g) are.1.0.0.1.0))

pub then_spec : {M : Type 1} → stated.statement M
unfolding tables_of
then_spec 𝓤 𝓛 𝓜 𝓡 wired X L =
    let 𝓣 : Tables 𝓤 𝓛.H = tables_of 𝓤 𝓛.H 𝓜 (tables 𝓤 𝓛.H 𝓜 𝓡 𝓡.env) in
    entered 𝓤 𝓛.H (triple_of 𝓛 (ended X).signature (closing 𝓛 (ended X) (held X 𝓛 𝓜.mem 𝓡.returns))) 𝓣.C 𝓣.Λ (#self (args X)) (function X)
    (code.unfolded 𝓤 𝓛.H 𝓜 𝓡 wired (X, tt)) (meets X 𝓛 𝓜.mem 𝓡.returns 𝓣)
