-- The history of a group in the world to which a schedule leads.
use Rattle.std.proofs.Common.{◌≡◌, ◌≢◌, ◌∙◌, ℕ, true, false, List, ◌++◌, [], ◌∷◌, map}
use Rattle.std.proofs.Common.{Option, Some, None, Result, Ok, Err, sym, ap, subst}
use Rattle.std.specs.Prelude.{IfOk, IfSome, is_some}
use Rattle.std.specs.Option.{option_to_list}
use Rattle.std.specs.declared.alloc.Global.{Global}
use Rattle.std.specs.declared.vec.Vec.{Vec}
use Rattle.std.proofs.lemmas.List.{append-nil, map-append}
use Rattle.pg_term.specs.declared.term.Term.{Term}
use Rattle.pg_world.specs.PgWorldAccount.declared.entry.Entry.{Entry}
use Rattle.pg_world.specs.PgWorldAccount.Histories.{as_entry, last_entries}
use Rattle.pg_world.specs.PgWorldConfig.declared.fault.WorldFault.{WorldFault}
use Rattle.pg_world.specs.PgWorldConfig.declared.fault.WorldFault.TheVariants.{OutOfMemory}
use Rattle.pg_world.specs.PgLaws.History.{history}
use Rattle.pg_world.specs.PgStep.Config.{Config}
use Rattle.pg_world.specs.PgStep.LossLaws.{LosingFrameWorld}
use Rattle.pg_world.specs.PgWorldPackets.declared.step.FrameStep.{FrameStep}
use Rattle.pg_world.specs.PgWorldPackets.Losing.{ShowsLosing}
use Rattle.pg_world.specs.PgWorldPackets.Openings.{CanBegin, CantBegin}
use Rattle.pg_world.specs.PgWorldPackets.Past.{RanFrames}
use Rattle.pg_world.specs.PgWorldPackets.Views.{View}
use Rattle.pg_cluster_judges.specs.declared.closed.Closed.{Closed}
use Rattle.pg_cluster_judges.specs.Closed.{AreStepsOf, IsHistory}
use Rattle.pg_cluster_judges.specs.Judges.{all_made, ran_out}
use Rattle.pg_cluster_judges.specs.NodeOf.{NodeOf}
use Rattle.pg_cluster_judges.specs.Told.{HasHistory}
use Rattle.pg_cluster_judges.proofs.Judging.{seen_as}
use Rattle.pg_cluster_judges.proofs.Replaying.{LeadsThere, there_again}

-- entries, and one more behind them
pub with_last : (entries : List Entry) (last : Option Entry) → map as_entry (entries ++ option_to_list last) ≡ map as_entry entries ++ last_entries last
with_last entries None = ap (map as_entry) (append-nil entries) ∙ sym (append-nil (map as_entry entries))
with_last entries (Some last) = map-append as_entry entries (last ∷ [])

-- what is found in a world that a schedule leads to
pub found_history : {E : Type 0} (given : Config) (schedule : List FrameStep) (name : Term) (view : View) (gone numbers : List ℕ) (result : Result (Option (Vec Entry Global)) E)
    → RanFrames given schedule numbers (λ config. ShowsLosing config view gone)
    → IfOk result (λ found. IfSome found (λ entries. map as_entry entries.items ≡ view.account.histories name)) → IfOk result (λ found. is_some found ≡ all_made numbers)
    → IfOk result (λ found. IfSome found (λ entries. HasHistory given schedule name (map as_entry entries.items)))
found_history given schedule name view gone numbers (Ok (Some entries)) ran is some = record {
  numbers = numbers;
  made = sym some;
  ran = seen_as given schedule numbers (λ config. ShowsLosing config view gone) (λ config u. history name u.world.reported ≡ map as_entry entries.items) ran
      (λ config u shows. ap (λ (x : LosingFrameWorld). history name x.world.reported) shows.is ∙ sym (is ∙ shows.shows.updates.history name));
}
found_history given schedule name view gone numbers (Ok None) ran is some = tt
found_history given schedule name view gone numbers (Err e) ran is some = tt

-- of one run it is found
pub always_found : {A E : Type 0} (ring : ℕ) (given : Config) (nodes : List NodeOf) (schedule : List FrameStep) (view : View) (gone numbers : List ℕ) (result : Result (Option A) E)
    → RanFrames given schedule numbers (λ config. ShowsLosing config view gone)
    → IfOk result (λ found. is_some found ≡ all_made numbers) → IfOk result (λ found. ran_out numbers ≡ false)
    → IfOk result (λ found. CanBegin ring given → LeadsThere given nodes schedule → is_some found ≡ true)
always_found ring given nodes schedule view gone numbers (Ok found) ran some none = λ can there. some ∙ (there_again given nodes schedule there view gone numbers ran none).0
always_found ring given nodes schedule view gone numbers (Err e) ran some none = tt

-- nothing is found where no world could begin, which is so of no configuration of which one can
pub none_found : {A E : Type 0} (P : A → Type 0) (Q : Type 0) (result : Result (Option A) E) → IfOk result (λ found. (found ≡ None) × Q) → IfOk result (λ found. IfSome found P)
none_found P Q (Ok found) told = subst (λ f. IfSome f P) (sym told.0) tt
none_found P Q (Err e) told = tt

pub unbegun_history : {A E : Type 0} (ring : ℕ) (given : Config) (Run : Type 0) (fault : WorldFault) (result : Result (Option A) E)
    → (CanBegin ring given → CantBegin ring given fault → fault ≡ OutOfMemory) → CantBegin ring given fault → IfOk result (λ found. (found ≡ None) × (fault ≢ OutOfMemory))
    → IfOk result (λ found. CanBegin ring given → Run → is_some found ≡ true)
unbegun_history ring given Run fault (Ok found) memory cant told = λ can run. absurd (told.1 (memory can cant))
unbegun_history ring given Run fault (Err e) memory cant told = tt

-- the history in the run of a cluster that has ended
pub told_history : {E : Type 0} (given : Config) (closed : Closed) (steps : List FrameStep) (name : Term) (result : Result (Option (Vec Entry Global)) E) → AreStepsOf closed steps
    → IfOk result (λ found. IfSome found (λ entries. HasHistory given steps name (map as_entry entries.items)))
    → IfOk result (λ found. IfSome found (λ entries. IsHistory given closed name (map as_entry entries.items)))
told_history given closed steps name (Ok (Some entries)) are has = record { steps = steps; are = are; has = has }
told_history given closed steps name (Ok None) are has = tt
told_history given closed steps name (Err e) are has = tt
