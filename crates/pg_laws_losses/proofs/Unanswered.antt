-- An entry that is not answered yet, of a node that is not lost, is the last of its group, and its node holds the lock.
use Rattle.std.proofs.Common.{◌≡◌, ℕ, true, false, map, List, [], ◌∷◌, ◌++◌, refl, ap, sym, ◌∙◌}
use Rattle.std.specs.List.{IsDistinct}
use Rattle.pg_term.specs.declared.term.Term.{Term}
use Rattle.pg_term.specs.Same.{same_atom}
use Rattle.pg_laws.specs.PgRefs.Numbered.{numbered}
use Rattle.pg_laws.specs.PgLock.Locks.{is_holder}
use Rattle.pg_laws.specs.PgStep.Config.{Config, names_of, name_at}
use Rattle.pg_laws.specs.PgStep.LossLaws.{LosingFrameWorld}
use Rattle.pg_laws.specs.PgStep.State.{State}
use Rattle.pg_laws.specs.History.{Entry, answered_count, history}
use Rattle.pg_laws.proofs.locks.Kept.{GoesOut, near, near_swap}
use Rattle.pg_laws.proofs.locks.Latest.{entry_name, updating_of}
use Rattle.pg_laws.proofs.locks.Named.{World, of_name}
use Rattle.pg_laws.proofs.locks.Unique.{IsUpdate, update_holds, update_is}
use Rattle.pg_laws.proofs.places.Prefixes.{answers_shown, node_here, split_shown}
use Rattle.pg_laws.proofs.places.Shown.{IsHere, by_name}
use Rattle.pg_laws_losses.proofs.Bridge.{live_at, near_at, whole_of}
use Rattle.pg_laws_losses.proofs.Bridges.{Bridged}
use Rattle.pg_laws_losses.proofs.Lossy.{bare}

map_none : (config : Config) (xs : List Entry) → map (by_name config) xs ≡ [] → xs ≡ []
map_none config [] e = refl
map_none config (x ∷ xs) e = absurd (cc)

module _ (config : Config) (apart : IsDistinct same_atom (names_of config)) (w : LosingFrameWorld) (b : Bridged config apart (bare w)) (name : Term) (before after : List Entry) (e : Entry)
    (is : history name w.world.reported ≡ before ++ e ∷ after) (none : answered_count e.node e.op w.world.reported ≡ 0) (lives : w.gone e.node ≡ false) where
  abbrev W : World
  W = b.has.world

  there : IsHere config e.node
  there = node_here config apart (whole_of config apart (bare w) b.has.ways) b.has.world b.has.shows b.places name before after e is

  split : of_name name b.has.world.history ≡ map (by_name config) before ++ by_name config e ∷ map (by_name config) after
  split = split_shown config apart (whole_of config apart (bare w) b.has.ways) b.has.world b.has.shows b.places name before after e is

  old : (map (by_name config) after ≡ []) × GoesOut b.has.world.nodes b.has.world.seen b.has.world.node (by_name config e)
  old = b.has.inv.latest name (map (by_name config) before) (map (by_name config) after) (by_name config e) split
      (answers_shown config apart (whole_of config apart (bare w) b.has.ways) b.has.world b.has.shows b.places e.node e.op there ∙ none)
      ((live_at config apart (bare w) b.has e.node there lives).unseen)

  pub is_last : after ≡ []
  is_last = map_none config after old.0

  update : IsUpdate name ((b.has.world.node (name_at config e.node)).uses old.1.number)
  update = update_is name ((b.has.world.node (name_at config e.node)).uses old.1.number)
      (updating_of name e.op e.update ((b.has.world.node (name_at config e.node)).uses old.1.number)
      (entry_name name b.has.world.history (map (by_name config) before) (map (by_name config) after) (by_name config e) split) old.1.update)

  -- one reference of its node holds the lock at each node that it does not see lost
  pub holds_all : (c : ℕ) × ((x : ℕ) → IsHere config x → (w.world.node e.node).state.lost (name_at config x) ≡ false → is_holder ((w.world.node x).state.locks name) (numbered (name_at config e.node) c) ≡ true)
  holds_all = (
    update.lock,
    λ x here known.
        let meets : near b.has.world (name_at config e.node) (name_at config x) = near_swap b.has.world (name_at config x) (name_at config e.node) (near_at config apart (bare w) b.has e.node x there here lives known) in
        ap (λ (s : State). is_holder (s.locks name) (numbered (name_at config e.node) update.lock)) (sym (b.has.shows.node x here))
        ∙ update_holds b.has.world b.has.inv (name_at config e.node) old.1.number name (name_at config x) meets update,
  )
