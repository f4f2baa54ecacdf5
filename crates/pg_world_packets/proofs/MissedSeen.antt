-- What a world keeps of the entries that a node has missed is what it has missed in the run that led there.
use Rattle.std.proofs.Common.{◌≡◌, ◌≢◌, ◌⊎◌, ◌<◌, ◌≤◌, ℕ, Bool, true, false, ◌&&◌, not, cond, length, List, [], ◌∷◌}
use Rattle.std.proofs.Common.{◌++◌, Option, Some, None, refl, sym, ap, ◌∙◌, subst, arith, inl, inr}
use Rattle.std.specs.List.{AllByRecursion, IsDistinct}
use Rattle.std.proofs.lemmas.Bool.{cases_eq, lt-ltb, ltb-true}
use Rattle.pg_term.specs.declared.term.Term.{Term}
use Rattle.pg_term.specs.Same.{same_atom, same_term}
use Rattle.pg_node_state.specs.PgGroup.declared.update.Update.{Update}
use Rattle.pg_node_state.specs.PgGroup.Value.{name_of}
use Rattle.pg_node_state.specs.PgStep.Machines.Losing.{LosingEvent}
use Rattle.pg_node_state.specs.PgStep.Machines.Places.{is_pair, is_place}
use Rattle.pg_node_state.specs.PgStep.Config.{Config, name_at, names_of}
use Rattle.pg_node_state.specs.PgStep.LossLaws.{LosingFrameWorld}
use Rattle.pg_node_state.specs.PgStep.Step.{Action}
use Rattle.pg_node_state.specs.PgStep.Turns.{Report}
use Rattle.pg_node_state.specs.PgStep.declared.command.OpId.{OpId}
use Rattle.pg_laws_losses.specs.PgLaws.History.{Entry, entries, entry_of, history, of_group}
use Rattle.pg_laws_losses.specs.PgLaws.WithLosses.{Marked, all_entries, has_seen}
use Rattle.pg_laws_losses.specs.Reached.{LosingReaches}
use Rattle.pg_laws_losses.proofs.Bridge.{not_true}
use Rattle.pg_laws_losses.proofs.Bridges.{Bridged, bridged}
use Rattle.pg_laws_losses.proofs.Lossy.{bare}
use Rattle.pg_laws_losses.specs.Remains.Missed.{marks, missed, missed_of}
use Rattle.pg_world_account.specs.Histories.{Account}
use Rattle.pg_world_account.specs.Losses.{is_lost}
use Rattle.pg_world_config.specs.Seen.{Seen}
use Rattle.pg_world_packets.specs.Losing.{losing_of, seen_at}
use Rattle.pg_world_packets.specs.Past.{has_seen_in, missed_in}
use Rattle.pg_world_packets.specs.Worlds.{TimedFrameWorld, ShowsNodes, ShowsUpdates}
use Rattle.pg_world_packets.proofs.Barred.{pair_here, seen_is}
use Rattle.pg_world_packets.proofs.Turning.{is_pair_so, no_pair}

-- the same is missed where the same losses were seen, of the nodes of entries
pub missed_same : (seen other : ℕ → Bool) (marked : Marked) → AllByRecursion (λ (e : Entry). seen e.node ≡ other e.node) (all_entries marked) → missed_of seen marked ≡ missed_of other marked
missed_same seen other [] all = refl
missed_same seen other (m ∷ ms) all = λ i. cond (not m.1 && all.0 i) (m.0 ∷ missed_same seen other ms all.1 i) (missed_same seen other ms all.1 i)

module _ (config : Config) where
  abbrev IsHere : ℕ → Type 0
  IsHere i = is_place (length config) i ≡ true

  -- the nodes of entries are there
  of_places : (name : Term) (reported : List (ℕ × Report)) → AllByRecursion (λ (t : ℕ × Report). IsHere t.0) reported → AllByRecursion (λ (e : Entry). IsHere e.node) (history name reported)
  of_places name [] all = tt
  of_places name (t ∷ ts) all = go t.1.began (of_places name ts all.1)
    where
      one : (e : Entry) (es : List Entry) (b : Bool) → IsHere e.node → AllByRecursion (λ (e : Entry). IsHere e.node) es → AllByRecursion (λ (e : Entry). IsHere e.node) (cond b (e ∷ es) es)
      one e es true here rest = (here, rest)
      one e es false here rest = rest

      go : (o : Option (OpId × Update)) → AllByRecursion (λ (e : Entry). IsHere e.node) (of_group name (entries ts)) → AllByRecursion (λ (e : Entry). IsHere e.node) (of_group name (entry_of t.0 o ++ entries ts))
      go None rest = rest
      go (Some (op, update)) rest = one (record { node = t.0; op = op; update = update }) (of_group name (entries ts)) (same_term name (name_of update)) all.0 rest

  mapped_all : {P Q : Entry → Type 0} (es : List Entry) → ((e : Entry) → P e → Q e) → AllByRecursion P es → AllByRecursion Q es
  mapped_all [] f all = tt
  mapped_all (e ∷ es) f all = (f e all.0, mapped_all es f all.1)

  module _ (apart : IsDistinct same_atom (names_of config)) (few : length config ≤ 16) (nodes : List Seen) (account : Account) (lost : List ℕ) (frames : TimedFrameWorld) (u : LosingFrameWorld)
      (shows : ShowsNodes config nodes frames) (updates : ShowsUpdates account frames) (is : u ≡ losing_of config frames lost) (events : List (LosingEvent Action)) (reached : LosingReaches config events u)
      (i : ℕ) (name : Term) (within : i < length nodes) (lives : is_lost lost i ≡ false)
      (whole : all_entries (marks i name u.world.reported) ≡ history name u.world.reported) where
    bridge : Bridged config apart (bare u)
    bridge = bridged config apart events u reached

    here : IsHere i
    here = let size = shows.size in lt-ltb i (length config) (omega (arith, within, size))

    -- a node that is not lost does not see itself lost
    unseen : has_seen config u i i ≡ false
    unseen = not_true (has_seen config u i i) (λ seen.
        let gone : u.gone i ≡ true = bridge.has.gone (name_at config i) i here (bridge.has.sees i (name_at config i) here ∙ seen) in
        let stays : u.gone i ≡ false = ap (λ (v : LosingFrameWorld). v.gone i) is ∙ lives in absurd (cc (sym stays ∙ gone)))

    seen_same : (p : ℕ) → IsHere p → has_seen_in nodes i p ≡ has_seen config u i p
    seen_same p there = go (cases_eq p i)
      where
        go : (p ≡ i) ⊎ (p ≢ i) → has_seen_in nodes i p ≡ has_seen config u i p
        go (inl e) = subst (λ k. has_seen_in nodes i k ≡ has_seen config u i k) (sym e) (ap (λ b. b && seen_at nodes i i) (no_pair (length nodes) i) ∙ sym unseen)
        go (inr n) =
            let pair : is_pair (length config) i p ≡ true = is_pair_so (length config) i p (ltb-true i (length config) here) (ltb-true p (length config) there) n in
            ap (λ b. b && seen_at nodes i p) (pair_here config nodes frames lost shows i p ∙ pair)
            ∙ (seen_is config nodes frames lost shows i p pair ∙ sym (ap (λ (v : LosingFrameWorld). (v.world.node i).state.lost (name_at config p)) is))

    marked_is : account.marked i name ≡ marks i name u.world.reported
    marked_is = let size = shows.size in updates.marked i name (omega (arith, within, size, few)) ∙ sym (ap (λ (v : LosingFrameWorld). marks i name v.world.reported) is)

    pub missed_is : missed_in nodes account i name ≡ missed config u i name
    missed_is = ap (missed_of (has_seen_in nodes i)) marked_is ∙ missed_same (has_seen_in nodes i) (has_seen config u i) (marks i name u.world.reported)
        (mapped_all (all_entries (marks i name u.world.reported)) (λ e there. seen_same e.node there)
        (subst (AllByRecursion (λ (e : Entry). IsHere e.node)) (sym whole) (of_places name u.world.reported bridge.places)))
