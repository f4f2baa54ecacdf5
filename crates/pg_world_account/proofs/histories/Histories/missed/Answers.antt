use Rattle.std.proofs.Common.{◌≡◌, ◌∙◌, List, ◌++◌, ◌∷◌, [], map, sym, ap, append-nil}
use Rattle.std.specs.Prelude.{Option, option_map}
use Rattle.std.specs.Borrow.{Bor}
use Rattle.std.specs.Option.{option_copied, option_to_list}
use Rattle.pg_laws_losses.specs.Remains.Missed.{missed_of}
use Rattle.pg_laws_losses.specs.PgLaws.WithLosses.{Marked}
use Rattle.pg_world_account.specs.declared.entry.Entry.{Entry}
use Rattle.pg_world_account.specs.Histories.{as_entry, as_marked, is_among, last_marks, marked_entries_in}
use Rattle.pg_world_account.proofs.Accounts.{missed_both}
use Rattle.pg_world_account.proofs.histories.Histories.missed.Goals.{in-Some+in_ok-add_missed, in_default}
use Rattle.pg_world_account.proofs.histories.Histories.missed.Goals as goal

pub returns : goal.returns
returns c =
    let seen = is_among c.args.seen.now in
    let node = c.args.node in
    let rows = marked_entries_in c.args.self.now.rows node c.args.name.now in
    let last = last_marks c.args.self.now.last node c.args.name.now in
    let first : map as_entry c.add_each_missed.new.missed.items ≡ missed_of seen rows =
    c.in_ok-add_each_missed.ensures ∙ (ap (λ (xs : List Entry). map as_entry xs ++ missed_of seen (map (as_marked node) c.entries.result.now)) c.new-missed.ensures.items
    ∙ ap (missed_of seen) (c.entries.ensures.marks node)) in
    elim c.match-last_of.branch [
      | in-Some+in_ok-add_missed w ↦
          let one : as_marked node w.in-Some.entry.now ∷ [] ≡ last =
          sym (ap (λ (o : Option (Bor Entry)). option_to_list (option_map (as_marked node) (option_copied o))) w.in-Some.is) ∙ c.last_of.ensures.marks node in
          ap (λ v. map as_entry v.items) w.missed-is ∙ (w.in_ok-add_missed.ensures ∙ ((λ j. first j ++ missed_of seen (one j)) ∙ sym (missed_both seen rows last)))
      | in_default w ↦
          let none : [] ≡ last = sym (ap (λ (o : Option (Bor Entry)). option_to_list (option_map (as_marked node) (option_copied o))) w.in_default.is) ∙ c.last_of.ensures.marks node in
          ap (λ v. map as_entry v.items) w.missed-is ∙ (first ∙ ap (missed_of seen) (sym (append-nil rows) ∙ ap (λ (ms : Marked). rows ++ ms) none))
    ]
