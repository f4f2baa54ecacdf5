-- Who is asked under a reference, by what it is used for.
use Rattle.std.proofs.Common.{◌≡◌, ℕ, ◌<◌, Bool, true, false, not, ◌&&◌, get_or, length, List, ap, sym, ◌∙◌}
use Rattle.std.specs.List.{IsDistinct}
use Rattle.pg_term.specs.Same.{same_atom}
use Rattle.pg_step.specs.PgGroup.declared.update.Update.{Update}
use Rattle.pg_step.specs.declared.command.OpId.{OpId}
use Rattle.pg_step.specs.Nodes.{Node, is_peer}
use Rattle.pg_step.specs.State.{Status}
use Rattle.pg_step.specs.State.Use.{Locking}
use Rattle.pg_step.specs.Attempts.{asks}
use Rattle.pg_node_opens.specs.declared.mark.Mark.TheVariants as mark
use Rattle.pg_node_opens.specs.declared.mark.Asked.{Asked as Whom}
use Rattle.pg_node_opens.specs.Marks.{asked_in}
use Rattle.pg_node_opens.specs.declared.command.OpenCommand.{OpenCommand}
use Rattle.pg_node_opens.specs.Places.{name_at, lost_in, live_in, ArePlaces}
use Rattle.pg_node_opens.specs.Named.{whom, has_place}
use Rattle.pg_node_opens.specs.Commands.{uses_in, AreKnown}
use Rattle.pg_node_opens.proofs.Asking.{own_here, asked_at, peer_left}
use Rattle.pg_node_opens.proofs.Found.{Stands}
use Rattle.pg_node_opens.proofs.Followed.{locks_as}

module _ (names : List Node) (lost : List Bool) (made : ℕ) (os : List OpenCommand) (k : ℕ) (o : OpenCommand) (apart : IsDistinct same_atom names) (places : ArePlaces names lost) (known : AreKnown names made os)
    (x : ℕ) (who : Whom) (place : ℕ) (at : Stands os k o x) (p : has_place who (length names) ≡ true) (l : place < length names) (asked : Bool) (is : asked ≡ asked_in (get_or o.marks place mark.Unasked) (get_or lost place false) who place)
    (op : OpId) (update : Update) (first : Node) (st : Node → Status) (e : uses_in names made os x ≡ Locking op update first st) where
  pub asked_counts : asked ≡ (not (lost_in names lost (name_at names place)) && asks (whom names who) st (name_at names place))
  asked_counts = let w = locks_as names made os k o known x op update first st at e in
      is ∙ (sym (asked_at names lost apart places o.marks (known.marked k o at.here) who place p l)
      ∙ (λ i. not (lost_in names lost (name_at names place)) && asks (whom names who) (w.1.marks i) (name_at names place)))

  pub asked_peer : 0 < place → asked ≡ (is_peer (live_in names lost) (name_at names place) && asks (whom names who) st (name_at names place))
  asked_peer above = asked_counts ∙ sym (ap (λ b. b && asks (whom names who) st (name_at names place)) (peer_left names lost apart places place l above))

  pub asked_own : place ≡ 0 → asked ≡ asks (whom names who) st (name_at names 0)
  asked_own own = asked_counts ∙ (ap (λ n. not (lost_in names lost (name_at names n)) && asks (whom names who) st (name_at names n)) own
      ∙ ap (λ b. not b && asks (whom names who) st (name_at names 0)) (own_here names lost apart places))
