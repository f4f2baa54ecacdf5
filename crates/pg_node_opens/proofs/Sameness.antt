-- Open commands that are seen as the same have twins, one for each.
use Rattle.std.proofs.Common.{◌≡◌, ℕ, ◌<◌, Bool, true, false, ◌&&◌, cond, nat_eq, get_or, length}
use Rattle.std.proofs.Common.{List, Some, None, refl, ap, sym, ◌∙◌, subst, inl, inr, ◌⊎◌}
use Rattle.std.specs.Prelude.{slice_get}
use Rattle.std.specs.Bool.{IsTrue}
use Rattle.std.specs.Cmp.{first_so, second_so}
use Rattle.std.specs.List.{IsDistinct, list_any}
use Rattle.std.proofs.lemmas.Bool.{eqb-true, eq-eqb}
use Rattle.std.proofs.lemmas.List.{same_lists, get_or_default}
use Rattle.pg_term.specs.Same.{same_atom}
use Rattle.pg_step.specs.PgGroup.declared.update.Update.{Update}
use Rattle.pg_step.specs.PgGroup.Value.{name_of}
use Rattle.pg_step.specs.declared.command.OpId.{OpId}
use Rattle.pg_step.specs.Nodes.{Node}
use Rattle.pg_step.specs.State.{Status, Use}
use Rattle.pg_step.specs.State.Use.{Locking, Owning, Updating}
use Rattle.pg_step.specs.State.Stage.{Closed}
use Rattle.pg_step.specs.Attempts.{same_op}
use Rattle.pg_node_opens.specs.declared.mark.Mark.TheVariants as mark
use Rattle.pg_node_opens.specs.Marks.{has_yes, same_mark, same_test, same_marks, same_replies}
use Rattle.pg_node_opens.specs.declared.command.Phase.{Phase}
use Rattle.pg_node_opens.specs.declared.command.Phase.TheVariants as phase
use Rattle.pg_node_opens.specs.declared.command.OpenCommand.{OpenCommand}
use Rattle.pg_node_opens.specs.declared.opens.Opens.{Opens}
use Rattle.pg_node_opens.specs.Layers.{over, or_as, seek, answers, others}
use Rattle.pg_node_opens.specs.Places.{name_at, lost_in, ArePlaces}
use Rattle.pg_node_opens.specs.Named.{statuses, replies}
use Rattle.pg_node_opens.specs.Commands.{use_at, stage_in, stage_at, unused, uses_in, stages_in, first_in, AreKnown}
use Rattle.pg_node_opens.specs.Opens.{lost_of, AreSame}
use Rattle.pg_node_opens.specs.Twins.{same_update, is_alike, is_twin, have_twins, same_commands}
use Rattle.pg_node_opens.proofs.Layered.{quiet_is}
use Rattle.pg_node_opens.proofs.Named.{clash, atom_same}
use Rattle.pg_node_opens.proofs.Asking.{lost_at, same_at, status_at, reply_at}
use Rattle.pg_node_opens.proofs.Uses.{was, stage_was, use_was}
use Rattle.pg_node_opens.proofs.Followed.{op_is, op_same}
use Rattle.pg_node_opens.proofs.Alike.{both_true, all_below_true, update_self, mark_by_status, test_same}
use Rattle.pg_node_opens.proofs.Twins.{Among, any_true, all_true, seek_finds, uses_by_twins, stages_by_twins}

-- ---- what one command is seen as

module _ (names : List Node) (made : ℕ) (os : List OpenCommand) (k : ℕ) (o : OpenCommand) (known : AreKnown names made os) (here : slice_get os k ≡ Some o) where
  used_here : (x : ℕ) (u : Use) → use_at names o x ≡ Some u → uses_in names made os x ≡ u
  used_here x u e = was names made os k o known here x ∙ ap (λ z. or_as (over z (seek (use_at names) (others os k) x)) (unused made x)) e

  lock_here : (lock first : ℕ) → o.phase ≡ phase.Asking lock first → uses_in names made os lock ≡ Locking o.op o.update (name_at names first) (statuses names o.marks)
  lock_here lock first e = used_here lock (Locking o.op o.update (name_at names first) (statuses names o.marks)) (use_was names o (phase.Asking lock first) lock e
      ∙ ap (λ b. cond b (Some (Locking o.op o.update (name_at names first) (statuses names o.marks))) None) (eq-eqb lock lock refl))

  update_here : (lock number : ℕ) → o.phase ≡ phase.Changing lock number → uses_in names made os number ≡ Updating o.op o.update lock (replies names o.marks)
  update_here lock number e = used_here number (Updating o.op o.update lock (replies names o.marks)) (use_was names o (phase.Changing lock number) number e
      ∙ ap (λ b. cond b (Some (Updating o.op o.update lock (replies names o.marks))) (cond (nat_eq lock number) (Some (Owning (name_of o.update) number)) None)) (eq-eqb number number refl))

  stage_here : stages_in os o.op ≡ stage_in o.update o.phase
  stage_here = stage_was names made os k o known here o.op
      ∙ ap (λ b. or_as (over (cond b (Some (stage_in o.update o.phase)) None) (seek stage_at (others os k) o.op)) Closed) (op_same o.op)

lock_parts : (a a' : OpId) (b b' : Update) (c c' : Node) (d d' : Node → Status) → Locking a b c d ≡ Locking a' b' c' d' → (b ≡ b') × (c ≡ c') × (d ≡ d')
lock_parts a a' b b' c c' d d' e = (cc, cc, cc)

update_parts : (a a' : OpId) (b b' : Update) (c c' : ℕ) (d d' : Node → Bool) → Updating a b c d ≡ Updating a' b' c' d' → (b ≡ b') × (c ≡ c') × (d ≡ d')
update_parts a a' b b' c c' d d' e = (cc, cc, cc)

op_by_answer : (p : OpenCommand) (op : OpId) → answers (stage_at p op) ≡ true → same_op p.op op ≡ true
op_by_answer p op e = go (same_op p.op op) e
  where
    go : (b : Bool) → answers (cond b (Some (stage_in p.update p.phase)) None) ≡ true → b ≡ true
    go true e = refl
    go false e = absurd (clash (sym e))

not_closed : (u : Update) (ph : Phase) → stage_in u ph ≡ Closed → ⊥
not_closed u phase.Waiting e = cc
not_closed u (phase.Asking lock first) e = cc
not_closed u (phase.Changing lock number) e = cc

module _ (names : List Node) (lost : List Bool) (made : ℕ) (os ps : List OpenCommand) (apart : IsDistinct same_atom names) (places : ArePlaces names lost) (known : AreKnown names made os) (known' : AreKnown names made ps)
    (uses : uses_in names made os ≡ uses_in names made ps) (stages : stages_in os ≡ stages_in ps) where
  module _ (k j : ℕ) (o p : OpenCommand) (here : slice_get os k ≡ Some o) (there : slice_get ps j ≡ Some p) where
    len : length o.marks ≡ length names
    len = known.marked k o here

    len' : length p.marks ≡ length names
    len' = known'.marked j p there

    marks_so : statuses names o.marks ≡ statuses names p.marks → same_marks o.marks p.marks ≡ true
    marks_so e = both_true (nat_eq (length o.marks) (length p.marks)) _ (eq-eqb (length o.marks) (length p.marks) (len ∙ sym len'))
        (all_below_true (length o.marks) (λ n. same_mark (get_or o.marks n mark.Unasked) (get_or p.marks n mark.Unasked))
        (λ n l. mark_by_status (get_or o.marks n mark.Unasked) (get_or p.marks n mark.Unasked)
        (sym (status_at names lost apart places o.marks len n (subst (λ z. n < z) len l))
        ∙ (ap (λ f. f (name_at names n)) e ∙ status_at names lost apart places p.marks len' n (subst (λ z. n < z) len l)))))

    replies_so : replies names o.marks ≡ replies names p.marks → same_replies o.marks p.marks ≡ true
    replies_so e = both_true (nat_eq (length o.marks) (length p.marks)) _ (eq-eqb (length o.marks) (length p.marks) (len ∙ sym len'))
        (all_below_true (length o.marks) (λ n. same_test (has_yes (get_or o.marks n mark.Unasked)) (has_yes (get_or p.marks n mark.Unasked)))
        (λ n l. test_same (has_yes (get_or o.marks n mark.Unasked)) (has_yes (get_or p.marks n mark.Unasked))
        (sym (reply_at names lost apart places o.marks len n (subst (λ z. n < z) len l))
        ∙ (ap (λ f. f (name_at names n)) e ∙ reply_at names lost apart places p.marks len' n (subst (λ z. n < z) len l)))))

    alike_so : (ph ph' : Phase) → o.phase ≡ ph → p.phase ≡ ph' → stage_in o.update ph ≡ stage_in p.update ph' → (o.update ≡ p.update) × (is_alike ph o.marks ph' p.marks ≡ true)
    alike_so phase.Waiting phase.Waiting e e' s = (cc, refl)
    alike_so (phase.Asking lock first) (phase.Asking lock' first') e e' s =
        let l : lock ≡ lock' = cc in
        let parts = lock_parts o.op p.op o.update p.update (name_at names first) (name_at names first') (statuses names o.marks) (statuses names p.marks)
        (sym (lock_here names made os k o known here lock first e) ∙ (ap (λ f. f lock) uses ∙ (ap (uses_in names made ps) l ∙ lock_here names made ps j p known' there lock' first' e'))) in
        let f : nat_eq first first' ≡ true = sym (same_at names lost apart places first first'
        (subst (λ ph. first_in ph < length names) e (known.first k o here)) (subst (λ ph. first_in ph < length names) e' (known'.first j p there)))
        ∙ atom_same (name_at names first) (name_at names first') parts.1 in
        (parts.0, both_true (nat_eq lock lock') _ (eq-eqb lock lock' l) (both_true (nat_eq first first') (same_marks o.marks p.marks) f (marks_so parts.2)))
    alike_so (phase.Changing lock number) (phase.Changing lock' number') e e' s =
        let n : number ≡ number' = cc in
        let parts = update_parts o.op p.op o.update p.update lock lock' (replies names o.marks) (replies names p.marks)
        (sym (update_here names made os k o known here lock number e) ∙ (ap (λ f. f number) uses ∙ (ap (uses_in names made ps) n ∙ update_here names made ps j p known' there lock' number' e'))) in
        (parts.0, both_true (nat_eq lock lock') _ (eq-eqb lock lock' parts.1) (both_true (nat_eq number number') (same_replies o.marks p.marks) (eq-eqb number number' n) (replies_so parts.2)))
    alike_so phase.Waiting (phase.Asking lock' first') e e' s = absurd (cc)
    alike_so phase.Waiting (phase.Changing lock' number') e e' s = absurd (cc)
    alike_so (phase.Asking lock first) phase.Waiting e e' s = absurd (cc)
    alike_so (phase.Asking lock first) (phase.Changing lock' number') e e' s = absurd (cc)
    alike_so (phase.Changing lock number) phase.Waiting e e' s = absurd (cc)
    alike_so (phase.Changing lock number) (phase.Asking lock' first') e e' s = absurd (cc)

    twin_so : p.op ≡ o.op → is_twin o p ≡ true
    twin_so same =
        let stage : stage_in o.update o.phase ≡ stage_in p.update p.phase = sym (stage_here names made os k o known here) ∙ (ap (λ f. f o.op) stages ∙ (ap (stages_in ps) (sym same) ∙ stage_here names made ps j p known' there)) in
        let parts = alike_so o.phase p.phase refl refl stage in
        both_true (same_op o.op p.op) _ (ap (same_op o.op) same ∙ op_same o.op)
        (both_true (same_update o.update p.update) (is_alike o.phase o.marks p.phase p.marks) (ap (same_update o.update) (sym parts.0) ∙ update_self o.update) parts.1)

  pub twins_so : have_twins os ps ≡ true
  twins_so = all_true (λ o. list_any (is_twin o) ps) os (λ k o here. go k o here (seek_finds stage_at ps o.op))
    where
      go : (k : ℕ) (o : OpenCommand) → slice_get os k ≡ Some o → Among ps (λ p. answers (stage_at p o.op)) ⊎ (answers (seek stage_at ps o.op) ≡ false) → list_any (is_twin o) ps ≡ true
      go k o here (inl f) = any_true (is_twin o) ps f.place f.item f.here (twin_so k f.place o f.item here f.here (op_is f.item.op o.op (op_by_answer f.item o.op f.passes)))
      go k o here (inr e) = absurd (not_closed o.update o.phase (sym (stage_here names made os k o known here)
          ∙ (ap (λ f. f o.op) stages ∙ ap (λ z. or_as z Closed) (quiet_is (seek stage_at ps o.op) e))))

-- ---- of two nodes

module _ (one other : Opens) where
  pub same_flags : one.names.items ≡ other.names.items → lost_of one ≡ lost_of other → one.lost.items ≡ other.lost.items
  same_flags en h = same_lists one.lost.items other.lost.items len (λ k d l. get_or_default one.lost.items k d false l
      ∙ (sym (lost_at one.names.items one.lost.items one.apart one.places k (subst (λ z. k < z) one.places.flags l))
      ∙ (ap (λ f. f (name_at one.names.items k)) h
      ∙ (ap (λ n. lost_in other.names.items other.lost.items (name_at n k)) en
      ∙ (lost_at other.names.items other.lost.items other.apart other.places k (subst (λ z. k < z) (len ∙ other.places.flags) l)
      ∙ get_or_default other.lost.items k false d (subst (λ z. k < z) len l))))))
    where
      len : length one.lost.items ≡ length other.lost.items
      len = one.places.flags ∙ (ap length en ∙ sym other.places.flags)

  module _ (r : Bool) (en : one.names.items ≡ other.names.items) (el : one.lost.items ≡ other.lost.items)
      (is : r ≡ same_commands one.references one.commands.items other.references other.commands.items) where
    known_there : one.references ≡ other.references → AreKnown one.names.items one.references other.commands.items
    known_there em = subst (λ names. AreKnown names one.references other.commands.items) (sym en) (subst (λ made. AreKnown other.names.items made other.commands.items) (sym em) other.known)

    pub same_forth : IsTrue r → AreSame one other
    same_forth e =
        let f : same_commands one.references one.commands.items other.references other.commands.items ≡ true = sym is ∙ e in
        let em = eqb-true one.references other.references (first_so (nat_eq one.references other.references) _ f) in
        let g : (nat_eq (length one.commands.items) (length other.commands.items) && (have_twins one.commands.items other.commands.items && have_twins other.commands.items one.commands.items)) ≡ true = second_so (nat_eq one.references other.references) _ f in
        let len = eqb-true (length one.commands.items) (length other.commands.items) (first_so (nat_eq (length one.commands.items) (length other.commands.items)) _ g) in
        let h : (have_twins one.commands.items other.commands.items && have_twins other.commands.items one.commands.items) ≡ true = second_so (nat_eq (length one.commands.items) (length other.commands.items)) _ g in
        let t = first_so (have_twins one.commands.items other.commands.items) (have_twins other.commands.items one.commands.items) h in
        let t' = second_so (have_twins one.commands.items other.commands.items) (have_twins other.commands.items one.commands.items) h in
        record {
          names = en;
          lost_peers = λ i. lost_in (en i) (el i);
          references = em;
          uses = uses_by_twins one.names.items one.references one.commands.items other.commands.items one.apart one.known (known_there em) t t' ∙ (λ i. uses_in (en i) (em i) other.commands.items);
          opened = len;
          stages = stages_by_twins one.names.items one.references one.commands.items other.commands.items one.apart one.known (known_there em) t t';
        }

    pub same_back : AreSame one other → IsTrue r
    same_back h =
        let uses : uses_in one.names.items one.references one.commands.items ≡ uses_in one.names.items one.references other.commands.items = h.uses ∙ (λ i. uses_in (sym en i) (sym h.references i) other.commands.items) in
        let known = known_there h.references in
        is ∙ both_true (nat_eq one.references other.references) _ (eq-eqb one.references other.references h.references)
        (both_true (nat_eq (length one.commands.items) (length other.commands.items)) _ (eq-eqb (length one.commands.items) (length other.commands.items) h.opened)
        (both_true (have_twins one.commands.items other.commands.items) (have_twins other.commands.items one.commands.items)
        (twins_so one.names.items one.lost.items one.references one.commands.items other.commands.items one.apart one.places one.known known uses h.stages)
        (twins_so one.names.items one.lost.items one.references other.commands.items one.commands.items one.apart one.places known one.known (sym uses) (sym h.stages))))
