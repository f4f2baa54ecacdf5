-- Which entries a node that is not lost has applied, event by event, by its reports.
use Rattle.std.proofs.Common.{◌≡◌, ◌≢◌, ◌⊎◌, inl, inr, ℕ, ◌+◌, ◌≤◌, Bool, true, false, not, ◌&&◌, cond, nat_eq}
use Rattle.std.proofs.Common.{length, List, [], ◌∷◌, ◌++◌, Option, Some, None, refl, ap, sym, ◌∙◌, subst, arith}
use Rattle.std.proofs.Common.{append-nil}
use Rattle.std.specs.Prelude.{drop, map, take}
use Rattle.std.specs.List.{IsDistinct}
use Rattle.std.proofs.lemmas.Bool.{cases_eq, eq-eqb, ne_eqb}
use Rattle.std.proofs.lemmas.List.{append_assoc, map-append, take-append-drop}
use Rattle.pg_term.specs.declared.term.Term.{Term}
use Rattle.pg_term.specs.RefParts.{RefParts}
use Rattle.pg_term.specs.Same.{same_atom, same_term}
use Rattle.pg_laws.specs.PgGroup.declared.update.Update.{Update}
use Rattle.pg_laws.specs.PgGroup.Functions.{upd}
use Rattle.pg_laws.specs.PgGroup.Value.{name_of}
use Rattle.pg_laws.proofs.PgGroup.Changes.{upd_by}
use Rattle.pg_laws.specs.PgExchange.GroupList.{GroupList}
use Rattle.pg_laws.specs.PgMessageTypes.declared.message.Message.{Message}
use Rattle.pg_laws.specs.PgMessageTypes.declared.message.Message.TheVariants.{Call, Exchange}
use Rattle.pg_laws.specs.PgMessageTypes.declared.message.Request.TheVariants.{Change}
use Rattle.pg_laws.specs.PgStep.Machines.Happened.{Changes, Happened}
use Rattle.pg_laws.specs.PgStep.Machines.Losing.{Noticed, Sent, Last, LosingEvent, mapped_turn, nobody_gone, stopped}
use Rattle.pg_laws.specs.PgStep.Machines.Machine.{Event, Input, Taken, Turn, World, node_of, start_of}
use Rattle.pg_laws.specs.PgStep.Machines.Places.{is_pair, set_at}
use Rattle.pg_laws.proofs.PgStep.Machines.Options.{some_is}
use Rattle.pg_laws.proofs.PgStep.Machines.Places.{by_place, set_at_here, set_at_other}
use Rattle.pg_laws.proofs.PgStep.Machines.Plain.{plain_start}
use Rattle.pg_laws.proofs.PgStep.Machines.Steps.{changes, pair_apart}
use Rattle.pg_laws.specs.PgStep.declared.command.OpId.{OpId}
use Rattle.pg_laws.specs.PgStep.Config.{Config, groups_at, name_at, names_of}
use Rattle.pg_laws.specs.PgStep.FrameMachine.{losing_frame_machine, losing_machine_of, place_turn, node_step}
use Rattle.pg_laws.specs.PgStep.Losses.{see_loss}
use Rattle.pg_laws.specs.PgStep.LossLaws.{LosingFrameWorld}
use Rattle.pg_laws.specs.PgStep.Nodes.{Node}
use Rattle.pg_laws.specs.PgStep.State.{State}
use Rattle.pg_laws.specs.PgStep.Step.{CLOCK_LIMIT, Action}
use Rattle.pg_laws.specs.PgStep.Turns.{Report, nothing}
use Rattle.pg_laws.specs.Exclusive.{IsUpdateOf}
use Rattle.pg_laws.specs.History.{Entry, answered_count, applied_by, entries, entry_of, history, is_op}
use Rattle.pg_laws.specs.History.{is_update_of, of_group, update_by, update_of, updates_of}
use Rattle.pg_laws.specs.WithLosses.{Marked, all_entries, left_of, left_out}
use Rattle.pg_laws.proofs.ends.Apart.{pair_second}
use Rattle.pg_laws.proofs.locks.Kept.{IsOpOf, carried, live_own, near, near_swap}
use Rattle.pg_laws.proofs.places.Prefixes.{answers_shown}
use Rattle.pg_laws.proofs.places.Shown.{IsHere, by_name}
use Rattle.pg_laws.proofs.references.Keys.{atoms, read_at, read_other, same_is, split, terms}
use Rattle.pg_laws.proofs.steps.Grows.{of_group_append}
use Rattle.pg_laws.proofs.steps.Lossless.{step_sees_none}
use Rattle.pg_laws.proofs.steps.Ways.{WayAfter, Grown, Shorter, Unchanged, own_place, pair_there}
use Rattle.pg_laws.proofs.steps.Ways.{told_append, way_after}
use Rattle.pg_laws_losses.specs.Reached.{LosingReaches}
use Rattle.pg_laws_losses.proofs.Bridge.{live_at, near_at, not_true, whole_of}
use Rattle.pg_laws_losses.proofs.Bridges.{Bridged, bridged}
use Rattle.pg_laws_losses.proofs.Lasts.{unheard_input}
use Rattle.pg_laws_losses.proofs.Lossy.{Lossy, bare, silent, Passed, Went, Died, passed, Makes, Steps, Sees, makes, noted}
use Rattle.pg_laws_losses.proofs.Parting.{unanswered}
use Rattle.pg_laws_losses.proofs.Thinned.{EachOut}
use Rattle.pg_laws_losses.specs.Remains.Missed.{applies, last_applied, marked_after, marks, marks_from}
use Rattle.pg_laws_losses.proofs.Remains.Bringing.{Brings, Bringing, bringing, brings_behind, brings_more, brings_sent}
use Rattle.pg_laws_losses.proofs.Remains.Bringing.{brought, counts_as_peer, in_both, once_brought, one_under, told_under}
use Rattle.pg_laws_losses.proofs.Remains.Heads.{packet_is}
use Rattle.pg_laws_losses.proofs.Remains.Passing.{kept_all, leads_more}
use Rattle.pg_laws_losses.proofs.Remains.Turning.{StepApplies, Begins, Told, begun, begun_one, made_sends, step_applies}

-- ---- marked entries

out_map : (F G : Entry → Type 0) (ms : Marked) → ((e : Entry) → F e → G e) → EachOut F ms → EachOut G ms
out_map F G [] f each = tt
out_map F G (m ∷ ms) f each = (one m.1 each.0, out_map F G ms f each.1)
  where
    one : (b : Bool) → cond b (Unit {0}) (F m.0) → cond b (Unit {0}) (G m.0)
    one true x = tt
    one false x = f m.0 x

out_append : (F : Entry → Type 0) (xs ys : Marked) → EachOut F xs → EachOut F ys → EachOut F (xs ++ ys)
out_append F [] ys a b = b
out_append F (x ∷ xs) ys a b = (a.0, out_append F xs ys a.1 b)

out_count : (node : ℕ) (xs ys : Marked) → left_out node (xs ++ ys) ≡ left_out node xs + left_out node ys
out_count node [] ys = omega arith
out_count node (x ∷ xs) ys = let rest = out_count node xs ys in omega (arith, rest)

pub left_more : (xs : Marked) (e : Entry) (b : Bool) → left_of (xs ++ (e, b) ∷ []) ≡ left_of xs ++ cond b (e ∷ []) []
left_more [] e true = refl
left_more [] e false = refl
left_more (x ∷ xs) e b = go x.1 (left_more xs e b)
  where
    go : (c : Bool) → left_of (xs ++ (e, b) ∷ []) ≡ left_of xs ++ cond b (e ∷ []) []
        → cond c (x.0 ∷ left_of (xs ++ (e, b) ∷ [])) (left_of (xs ++ (e, b) ∷ [])) ≡ cond c (x.0 ∷ left_of xs) (left_of xs) ++ cond b (e ∷ []) []
    go true rest = ap (λ zs. x.0 ∷ zs) rest
    go false rest = rest

-- the last is applied
last_marked : (xs : Marked) (e : Entry) (b : Bool) → last_applied (xs ++ (e, b) ∷ []) ≡ xs ++ (e, true) ∷ []
last_marked [] e b = refl
last_marked (x ∷ []) e b = refl
last_marked (x ∷ y ∷ xs) e b = ap (λ zs. x ∷ zs) (last_marked (y ∷ xs) e b)

same_entries : (xs : Marked) → all_entries (last_applied xs) ≡ all_entries xs
same_entries [] = refl
same_entries (x ∷ []) = refl
same_entries (x ∷ y ∷ xs) = ap (λ zs. x.0 ∷ zs) (same_entries (y ∷ xs))

-- ---- marks, turn by turn

module _ (i : ℕ) (name : Term) where
  marks_last : (ts : List (ℕ × Report)) (t : ℕ × Report) (ms : Marked) → marks_from i name ms (ts ++ t ∷ []) ≡ marked_after (of_group name (entry_of t.0 t.1.began)) (applies i name t) (marks_from i name ms ts)
  marks_last [] t ms = refl
  marks_last (x ∷ ts) t ms = marks_last ts t (marked_after (of_group name (entry_of x.0 x.1.began)) (applies i name x) ms)

  -- an update of the group begins by a turn of node x, or none
  data Begun (x : ℕ) (o : Option (OpId × Update)) (es : List Entry) : Type 0 where
    NoneBegun : es ≡ [] → ((op : OpId) (u : Update) → o ≡ Some (op, u) → name_of u ≡ name → ⊥) → Begun x o es
    OneBegun : (op : OpId) (u : Update) → o ≡ Some (op, u) → name_of u ≡ name → es ≡ record { node = x; op = op; update = u } ∷ [] → Begun x o es

  begins : (x : ℕ) (o : Option (OpId × Update)) → Begun x o (of_group name (entry_of x o))
  begins x None = NoneBegun refl (λ op u is. absurd (cc is))
  begins x (Some (op, u)) = go (same_term name (name_of u)) refl
    where
      go : (b : Bool) → same_term name (name_of u) ≡ b → Begun x (Some (op, u)) (cond b (record { node = x; op = op; update = u } ∷ []) [])
      go true is = OneBegun op u refl (sym (terms.is name (name_of u) is)) refl
      go false is = NoneBegun refl (λ other v same named.
          let one : u ≡ v = ap (λ (z : OpId × Update). z.1) (some_is same) in
          absurd (cc (sym is ∙ same_is same_term terms name (name_of u) (sym named ∙ ap name_of (sym one)))))

  -- an update of the group is applied, or none
  data Applied (o : Option Update) : Type 0 where
    NoneApplied : is_update_of name o ≡ false → update_of name o ≡ [] → ((u : Update) → o ≡ Some u → name_of u ≡ name → ⊥) → Applied o
    OneApplied : (u : Update) → o ≡ Some u → name_of u ≡ name → is_update_of name o ≡ true → update_of name o ≡ u ∷ [] → Applied o

  applied_one : (o : Option Update) → Applied o
  applied_one None = NoneApplied refl refl (λ u is. absurd (cc is))
  applied_one (Some u) = go (same_term name (name_of u)) refl
    where
      go : (b : Bool) → same_term name (name_of u) ≡ b → Applied (Some u)
      go true is = OneApplied u refl (sym (terms.is name (name_of u) is)) is (ap (λ b. cond b (u ∷ []) []) is)
      go false is = NoneApplied is (ap (λ b. cond b (u ∷ []) []) is) (λ v same named.
          let one : u ≡ v = some_is same in
          absurd (cc (sym is ∙ same_is same_term terms name (name_of u) (sym named ∙ ap name_of (sym one)))))

  entries_after : (x : ℕ) (o : Option (OpId × Update)) (b : Bool) (ms : Marked) → all_entries (marked_after (of_group name (entry_of x o)) b ms) ≡ all_entries ms ++ of_group name (entry_of x o)
  entries_after x o b ms = go (of_group name (entry_of x o)) (begins x o) b
    where
      none : (b : Bool) → all_entries (marked_after [] b ms) ≡ all_entries ms ++ []
      none true = same_entries ms ∙ sym (append-nil (all_entries ms))
      none false = sym (append-nil (all_entries ms))

      go : (es : List Entry) → Begun x o es → (b : Bool) → all_entries (marked_after es b ms) ≡ all_entries ms ++ es
      go es (NoneBegun is never) b = subst (λ zs. all_entries (marked_after zs b ms) ≡ all_entries ms ++ zs) (sym is) (none b)
      go es (OneBegun op u some named is) b = subst (λ zs. all_entries (marked_after zs b ms) ≡ all_entries ms ++ zs) (sym is) (map-append (λ m. m.0) ms ((record { node = x; op = op; update = u }, b) ∷ []))

  -- the marked entries are the history
  entries_from : (ts : List (ℕ × Report)) (ms : Marked) → all_entries (marks_from i name ms ts) ≡ all_entries ms ++ history name ts
  entries_from [] ms = sym (append-nil (all_entries ms))
  entries_from (t ∷ ts) ms =
      entries_from ts (marked_after (of_group name (entry_of t.0 t.1.began)) (applies i name t) ms)
      ∙ (ap (λ zs. zs ++ history name ts) (entries_after t.0 t.1.began (applies i name t) ms)
      ∙ (append_assoc (all_entries ms) (of_group name (entry_of t.0 t.1.began)) (history name ts)
      ∙ ap (λ zs. all_entries ms ++ zs) (sym (of_group_append name (entry_of t.0 t.1.began) (entries ts)))))

  pub marked_history : (ts : List (ℕ × Report)) → all_entries (marks i name ts) ≡ history name ts
  marked_history ts = entries_from ts []

-- a turn of another node answers nothing of this one
answered_other : (x node : ℕ) (op : OpId) (r : Report) (ts : List (ℕ × Report)) → x ≢ node → answered_count node op (ts ++ (x, r) ∷ []) ≡ answered_count node op ts
answered_other x node op r [] n = ap (λ b. cond {A = ℕ} (b && is_op op r.answered) 1 0 + 0) (ne_eqb x node n)
answered_other x node op r (t ∷ ts) n = ap (λ k. cond {A = ℕ} (nat_eq t.0 node && is_op op t.1.answered) 1 0 + k) (answered_other x node op r ts n)

no_less : (b c : Bool) → (b ≡ true → c ≡ true) → cond {A = ℕ} b 1 0 ≤ cond {A = ℕ} c 1 0
no_less true true f = omega arith
no_less false true f = omega arith
no_less false false f = omega arith
no_less true false f = let y : false ≡ true = f refl in absurd (cc)

-- what is cut from a way brings nothing new
brings_cut : (name : Term) (b : Bool) (k : ℕ) (xs : List (Noticed Message)) → Brings name (cond b (take k xs ++ Last ∷ []) xs) → Brings name xs
brings_cut name false k xs g = g
brings_cut name true k xs g = go (in_both (take k xs) (Last ∷ []) g.front g.rest (Sent (Call g.reference (Change g.update))) g.is)
  where
    no_notice : (less rest : List (Noticed Message)) (x : Message) → Last ∷ [] ≡ less ++ Sent x ∷ rest → ⊥
    no_notice [] rest x is = absurd (cc is)
    no_notice (y ∷ []) rest x is = absurd (cc is)
    no_notice (y ∷ z ∷ less) rest x is = absurd (cc is)

    go : ((more : List (Noticed Message)) × (take k xs ≡ g.front ++ Sent (Call g.reference (Change g.update)) ∷ more)) ⊎ ((less : List (Noticed Message)) × (Last ∷ [] ≡ less ++ Sent (Call g.reference (Change g.update)) ∷ g.rest))
        → Brings name xs
    go (inl (more, is)) = subst (Brings name) (take-append-drop k xs)
        (brings_more name (take k xs) (drop k xs) (record { front = g.front; rest = more; reference = g.reference; update = g.update; is = is; named = g.named }))
    go (inr (less, is)) = absurd (no_notice less g.rest (Call g.reference (Change g.update)) is)

-- the first packet of a way brings an update, or the rest does
brings_tail : (name : Term) (y : Noticed Message) (xs : List (Noticed Message)) → Brings name (y ∷ xs) → ((r : RefParts) × (u : Update) × (y ≡ Sent (Call r (Change u))) × (name_of u ≡ name)) ⊎ Brings name xs
brings_tail name y xs g = go g.front g.is
  where
    go : (front : List (Noticed Message)) → y ∷ xs ≡ front ++ Sent (Call g.reference (Change g.update)) ∷ g.rest
        → ((r : RefParts) × (u : Update) × (y ≡ Sent (Call r (Change u))) × (name_of u ≡ name)) ⊎ Brings name xs
    go [] is = let head : y ≡ Sent (Call g.reference (Change g.update)) = cc is in inl (g.reference, g.update, head, g.named)
    go (z ∷ front) is =
        let tail : xs ≡ front ++ Sent (Call g.reference (Change g.update)) ∷ g.rest = cc is in
        inr (record { front = front; rest = g.rest; reference = g.reference; update = g.update; is = tail; named = g.named })

-- an update that is as the one that began
begun_some : (o : Option (OpId × Update)) (u : Update) → begun_one o ≡ Some u → (op : OpId) × (o ≡ Some (op, u))
begun_some None u is = absurd (cc is)
begun_some (Some (op, v)) u is = (op, λ k. Some (op, some_is is k))

packet_same : {p : ℕ} {x y : Noticed Message} → ◌≡◌ {A = Input (Noticed Message) Action} (Taken p x) (Taken p y) → x ≡ y
packet_same e = cc

peer_same : {p q : ℕ} {x y : Noticed Message} → ◌≡◌ {A = Input (Noticed Message) Action} (Taken p x) (Taken q y) → p ≡ q
peer_same e = cc

call_same : {p q : ℕ} {r s : RefParts} {u v : Update} → ◌≡◌ {A = Input Message Action} (Taken p (Call r (Change u))) (Taken q (Call s (Change v))) → u ≡ v
call_same e = cc

module _ (config : Config) (apart : IsDistinct same_atom (names_of config)) (i : ℕ) (here : IsHere config i) (name : Term) where
  abbrev a : Node
  a = name_at config i

  -- an entry that is missed
  abbrev pub Out : Lossy → Entry → Type 0
  Out w e = IsHere config e.node × ((w.world.node i).lost (name_at config e.node) ≡ true) × (answered_count e.node e.op w.world.reported ≡ 0)

  pub record Good (w : Lossy) (ms : Marked) : Type 0 where
    pub each : EachOut (Out w) ms
    pub few : (node : ℕ) → left_out node ms ≤ cond {A = ℕ} ((w.world.node i).lost (name_at config node)) 1 0

  -- each entry that the node will take it has taken, and none of the others
  pub record AllTaken (w : Lossy) (ms : Marked) : Type 0 where
    pub good : Good w ms
    pub none : (p : ℕ) → is_pair (length config) i p ≡ true → (w.world.node i).lost (name_at config p) ≡ false → Brings name (w.world.wire p i) → ⊥

  -- the last is on its way to it, or was cut with its node, whose loss it has not seen
  pub record LastDue (w : Lossy) (ms : Marked) : Type 0 where
    pub front : Marked
    pub e : Entry
    pub is : ms ≡ front ++ (e, false) ∷ []
    pub good : Good w front
    pub there : IsHere config e.node
    pub other : e.node ≢ i
    pub unseen : (w.world.node i).lost (name_at config e.node) ≡ false
    pub way : w.gone e.node ≡ false → Brings name (w.world.wire e.node i)
    pub number : ℕ
    pub used : IsUpdateOf name ((w.world.node e.node).uses number)
    pub op : IsOpOf ((w.world.node e.node).uses number) e.op

  pub record Marking (w : Lossy) : Type 0 where
    pub log : updates_of (left_of (marks i name w.world.reported)) ≡ applied_by i name w.world.reported
    pub kept : AllTaken w (marks i name w.world.reported) ⊎ LastDue w (marks i name w.world.reported)

  good_later : (w v : Lossy) (ms : Marked) → ((q : Node) → (w.world.node i).lost q ≡ true → (v.world.node i).lost q ≡ true) → ((e : Entry) → Out w e → answered_count e.node e.op v.world.reported ≡ 0)
      → Good w ms → Good v ms
  good_later w v ms grows stays g = record {
    each = out_map (Out w) (Out v) ms (λ e o. (o.0, grows (name_at config e.node) o.1, stays e o)) g.each;
    few = λ node.
        let old : left_out node ms ≤ cond {A = ℕ} ((w.world.node i).lost (name_at config node)) 1 0 = g.few node in
        let more : cond {A = ℕ} ((w.world.node i).lost (name_at config node)) 1 0 ≤ cond {A = ℕ} ((v.world.node i).lost (name_at config node)) 1 0 =
        no_less ((w.world.node i).lost (name_at config node)) ((v.world.node i).lost (name_at config node)) (grows (name_at config node)) in
        omega (arith, old, more);
  }

  -- one more, which is taken
  good_taken : (w : Lossy) (ms : Marked) (e : Entry) → Good w ms → Good w (ms ++ (e, true) ∷ [])
  good_taken w ms e g = record {
    each = out_append (Out w) ms ((e, true) ∷ []) g.each (tt, tt);
    few = λ node.
        let old : left_out node ms ≤ cond {A = ℕ} ((w.world.node i).lost (name_at config node)) 1 0 = g.few node in
        let sum : left_out node (ms ++ (e, true) ∷ []) ≡ left_out node ms + (cond {A = ℕ} (nat_eq e.node node && false) 1 0 + 0) = out_count node ms ((e, true) ∷ []) in
        let zero_is : cond {A = ℕ} (nat_eq e.node node && false) 1 0 ≡ 0 = never (nat_eq e.node node) in
        omega (arith, old, sum, zero_is);
  }
    where
      never : (b : Bool) → cond {A = ℕ} (b && false) 1 0 ≡ 0
      never true = refl
      never false = refl

  -- one more, which is missed
  good_missed : (w v : Lossy) (ms : Marked) (e : Entry) → (w.world.node i).lost (name_at config e.node) ≡ false → Good w ms → Good v ms → Out v e → Good v (ms ++ (e, false) ∷ [])
  good_missed w v ms e unseen before g out = record {
    each = out_append (Out v) ms ((e, false) ∷ []) g.each (out, tt);
    few = λ node. go node (cases_eq e.node node);
  }
    where
      as_it : (b : Bool) → cond {A = ℕ} (b && true) 1 0 ≡ cond {A = ℕ} b 1 0
      as_it true = refl
      as_it false = refl

      go : (node : ℕ) → (e.node ≡ node) ⊎ (e.node ≡ node → ⊥) → left_out node (ms ++ (e, false) ∷ []) ≤ cond {A = ℕ} ((v.world.node i).lost (name_at config node)) 1 0
      go node (inl same) =
          let old : left_out node ms ≤ 0 = subst (λ b. left_out node ms ≤ cond {A = ℕ} b 1 0) (ap (λ z. (w.world.node i).lost (name_at config z)) (sym same) ∙ unseen) (before.few node) in
          let sum : left_out node (ms ++ (e, false) ∷ []) ≡ left_out node ms + (cond {A = ℕ} (nat_eq e.node node && true) 1 0 + 0) = out_count node ms ((e, false) ∷ []) in
          let one : cond {A = ℕ} (nat_eq e.node node && true) 1 0 ≡ 1 = as_it (nat_eq e.node node) ∙ ap (λ b. cond {A = ℕ} b 1 0) (eq-eqb e.node node same) in
          let seen : cond {A = ℕ} ((v.world.node i).lost (name_at config node)) 1 0 ≡ 1 = ap (λ b. cond {A = ℕ} b 1 0) (ap (λ z. (v.world.node i).lost (name_at config z)) (sym same) ∙ out.1) in
          omega (arith, old, sum, one, seen)
      go node (inr other) =
          let old : left_out node ms ≤ cond {A = ℕ} ((v.world.node i).lost (name_at config node)) 1 0 = g.few node in
          let sum : left_out node (ms ++ (e, false) ∷ []) ≡ left_out node ms + (cond {A = ℕ} (nat_eq e.node node && true) 1 0 + 0) = out_count node ms ((e, false) ∷ []) in
          let none : cond {A = ℕ} (nat_eq e.node node && true) 1 0 ≡ 0 = as_it (nat_eq e.node node) ∙ ap (λ b. cond {A = ℕ} b 1 0) (ne_eqb e.node node other) in
          omega (arith, old, sum, none)

  -- ---- a node is lost

  module _ (w : Lossy) (j : ℕ) (keep : ℕ → ℕ) (old : Marking w) where
    abbrev cut_world : Lossy
    cut_world = record { world = stopped (length config) silent w.world j keep; gone = set_at w.gone j true }

    way_before : (p : ℕ) → Brings name ((stopped (length config) silent w.world j keep).wire p i) → Brings name (w.world.wire p i)
    way_before p g = go (cases_eq p j)
      where
        row : ℕ → List (Noticed Message)
        row y = cond (is_pair (length config) j y) (take (keep y) (w.world.wire j y) ++ Last ∷ []) (w.world.wire j y)

        go : (p ≡ j) ⊎ (p ≡ j → ⊥) → Brings name (w.world.wire p i)
        go (inl same) = subst (λ z. Brings name (w.world.wire z i)) (sym same) (brings_cut name (is_pair (length config) j i) (keep i) (w.world.wire j i)
            (subst (Brings name) (ap (λ (f : ℕ → List (Noticed Message)). f i) (set_at_here {A = ℕ → List (Noticed Message)} w.world.wire j _ p same)) g))
        go (inr other) = subst (Brings name) (ap (λ (f : ℕ → List (Noticed Message)). f i) (set_at_other {A = ℕ → List (Noticed Message)} w.world.wire j _ p other)) g

    way_behind : (p : ℕ) → p ≢ j → Brings name (w.world.wire p i) → Brings name ((stopped (length config) silent w.world j keep).wire p i)
    way_behind p other g = subst (Brings name) (sym (ap (λ (f : ℕ → List (Noticed Message)). f i) (set_at_other {A = ℕ → List (Noticed Message)} w.world.wire j _ p other))) g

    kept_cut : AllTaken w (marks i name w.world.reported) ⊎ LastDue w (marks i name w.world.reported) → AllTaken cut_world (marks i name w.world.reported) ⊎ LastDue cut_world (marks i name w.world.reported)
    kept_cut (inl t) = inl (record { good = record { each = t.good.each; few = t.good.few }; none = λ p pair unseen g. t.none p pair unseen (way_before p g) })
    kept_cut (inr d) = inr (record {
      front = d.front;
      e = d.e;
      is = d.is;
      good = record { each = d.good.each; few = d.good.few };
      there = d.there;
      other = d.other;
      unseen = d.unseen;
      way = λ alive. go (cases_eq d.e.node j) alive;
      number = d.number;
      used = d.used;
      op = d.op;
    })
      where
        go : (d.e.node ≡ j) ⊎ (d.e.node ≡ j → ⊥) → set_at w.gone j true d.e.node ≡ false → Brings name ((stopped (length config) silent w.world j keep).wire d.e.node i)
        go (inl same) alive = absurd (cc (sym alive ∙ set_at_here w.gone j true d.e.node same))
        go (inr other) alive = way_behind d.e.node other (d.way (sym (set_at_other w.gone j true d.e.node other) ∙ alive))

    cut_marking : Marking cut_world
    cut_marking = record { log = old.log; kept = kept_cut old.kept }

  -- ---- a turn

  module _ (w v : Lossy) (bw : Bridged config apart w) (bv : Bridged config apart v) (lives : w.gone i ≡ false) (lived : v.gone i ≡ false) (old : Marking w)
      (d : Event Action) (alive : w.gone (node_of d) ≡ false) (h : Happened (losing_machine_of config) w.world d v.world) (same_gone : v.gone ≡ w.gone) where
    abbrev x : ℕ
    x = node_of d

    abbrev r : Report
    r = h.turn.reported

    abbrev ms : Marked
    ms = marks i name w.world.reported

    all : Changes d h.turn w.world v.world
    all = changes (losing_machine_of config) w.world v.world d h

    x_here : IsHere config (node_of d)
    x_here = own_place (losing_machine_of config) w.world v.world d h

    marks_are : marks i name v.world.reported ≡ marked_after (of_group name (entry_of (node_of d) h.turn.reported.began)) (applies i name (node_of d, h.turn.reported)) (marks i name w.world.reported)
    marks_are = ap (marks i name) all.reported ∙ marks_last i name w.world.reported (node_of d, h.turn.reported) []

    applied_are : applied_by i name v.world.reported ≡ applied_by i name w.world.reported ++ cond (nat_eq (node_of d) i) (update_of name h.turn.reported.applied) []
    applied_are = ap (applied_by i name) all.reported ∙ (told_append (update_by i name) w.world.reported ((node_of d, h.turn.reported) ∷ [])
        ∙ ap (λ us. applied_by i name w.world.reported ++ us) (append-nil (update_by i name (node_of d, h.turn.reported))))

    -- who is missed was not answered by this turn
    still_out : (e : Entry) → Out w e → answered_count e.node e.op v.world.reported ≡ 0
    still_out e o = ap (answered_count e.node e.op) all.reported ∙ (answered_other (node_of d) e.node e.op h.turn.reported w.world.reported apart_is ∙ o.2)
      where
        apart_is : node_of d ≢ e.node
        apart_is same =
            let gone : w.gone e.node ≡ true = bw.has.gone (name_at config i) e.node o.0 (bw.has.sees i (name_at config e.node) here ∙ o.1) in
            absurd (cc (sym alive ∙ (ap w.gone same ∙ gone)))

    -- what a turn sends to a node that it counts
    sent_to : (y : ℕ) → IsHere config y → node_of d ≢ y → (w.world.node (node_of d)).lost (name_at config y) ≡ false
        → (xs : List Message) × (v.world.wire (node_of d) y ≡ w.world.wire (node_of d) y ++ map Sent xs) × (carried xs ≡ begun h.turn.reported.began)
    sent_to y there other known =
        let m = made_sends config (node_of d) (w.world.node (node_of d)) h.input h.turn (makes config (node_of d) (w.world.node (node_of d)) h.input h.turn h.made) y there
        (counts_as_peer config apart name w bw (node_of d) y x_here there other known) in
        (m.0, all.sent y ∙ ap (λ zs. w.world.wire (node_of d) y ++ zs) m.1, m.2)

    -- the history behind the turn, by its last entry
    history_is : (front : Marked) (e : Entry) (b : Bool) → marks i name v.world.reported ≡ front ++ (e, b) ∷ [] → history name v.world.reported ≡ all_entries front ++ e ∷ []
    history_is front e b is = sym (marked_history i name v.world.reported) ∙ (ap all_entries is ∙ map-append (λ m. m.0) front ((e, b) ∷ []))

    near_now : (p : ℕ) → IsHere config p → (v.world.node i).lost (name_at config p) ≡ false → near bv.has.world (name_at config p) (name_at config i)
    near_now p there unseen = near_at config apart v bv.has i p here there lived unseen

    near_then : (p : ℕ) → IsHere config p → (w.world.node i).lost (name_at config p) ≡ false → near bw.has.world (name_at config p) (name_at config i)
    near_then p there unseen = near_at config apart w bw.has i p here there lives unseen

    -- of a node that is not lost no loss is seen
    unlost : (y : ℕ) → IsHere config y → (w.world.node y).lost (name_at config i) ≡ false
    unlost y there = not_true ((w.world.node y).lost (name_at config i)) (λ seen.
        let gone : w.gone i ≡ true = bw.has.gone (name_at config y) i here (bw.has.sees y (name_at config i) there ∙ seen) in absurd (cc (sym lives ∙ gone)))

    unlost_now : (y : ℕ) → IsHere config y → (v.world.node y).lost (name_at config i) ≡ false
    unlost_now y there = not_true ((v.world.node y).lost (name_at config i)) (λ seen.
        let gone : v.gone i ≡ true = bv.has.gone (name_at config y) i here (bv.has.sees y (name_at config i) there ∙ seen) in absurd (cc (sym lived ∙ gone)))

    -- ---- by another node

    module _ (other : node_of d ≢ i) where
      state_same : v.world.node i ≡ w.world.node i
      state_same = all.states i (λ e. other (sym e))

      lost_same : (q : Node) → (v.world.node i).lost q ≡ (w.world.node i).lost q
      lost_same q = ap (λ (s : State). s.lost q) state_same

      good_same : (xs : Marked) → Good w xs → Good v xs
      good_same xs g = good_later w v xs (λ q e. lost_same q ∙ e) still_out g

      not_own : applies i name (node_of d, h.turn.reported) ≡ false
      not_own = ap (λ b. b && is_update_of name h.turn.reported.applied) (ne_eqb (node_of d) i other)

      applied_same : applied_by i name v.world.reported ≡ applied_by i name w.world.reported
      applied_same = applied_are ∙ (ap (λ b. applied_by i name w.world.reported ++ cond b (update_of name h.turn.reported.applied) []) (ne_eqb (node_of d) i other) ∙ append-nil (applied_by i name w.world.reported))

      sent : (xs : List Message) × (v.world.wire (node_of d) i ≡ w.world.wire (node_of d) i ++ map Sent xs) × (carried xs ≡ begun h.turn.reported.began)
      sent = sent_to i here other (unlost (node_of d) x_here)

      x_unseen : (v.world.node i).lost (name_at config (node_of d)) ≡ false
      x_unseen = not_true ((v.world.node i).lost (name_at config (node_of d))) (λ seen.
          let gone : w.gone (node_of d) ≡ true = bw.has.gone (name_at config i) (node_of d) x_here (bw.has.sees i (name_at config (node_of d)) here ∙ (sym (lost_same (name_at config (node_of d))) ∙ seen)) in
          absurd (cc (sym alive ∙ gone)))

      -- the way from another than the node of the event is as it was
      way_same : (p : ℕ) → p ≢ node_of d → v.world.wire p i ≡ w.world.wire p i
      way_same p apart_is = go (way_after (losing_machine_of config) w.world v.world d h p i)
        where
          go : WayAfter (node_of d) h.input p i (h.turn.sends i) (w.world.wire p i) (v.world.wire p i) → v.world.wire p i ≡ w.world.wire p i
          go (Grown at is) = absurd (apart_is at)
          go (Shorter packet n to taken first) = absurd (other (sym to))
          go (Unchanged n m is) = is

      -- where none begins
      module _ (none : (op : OpId) (u : Update) → h.turn.reported.began ≡ Some (op, u) → name_of u ≡ name → ⊥) where
        brought_before : (p : ℕ) → Brings name (v.world.wire p i) → Brings name (w.world.wire p i)
        brought_before p g = go (cases_eq p (node_of d))
          where
            by : Brings name (w.world.wire (node_of d) i) ⊎ ((op : OpId) × (u : Update) × (h.turn.reported.began ≡ Some (op, u)) × (name_of u ≡ name)) → Brings name (w.world.wire (node_of d) i)
            by (inl old_one) = old_one
            by (inr (op, u, some, named)) = absurd (none op u some named)

            go : (p ≡ node_of d) ⊎ (p ≡ node_of d → ⊥) → Brings name (w.world.wire p i)
            go (inl same) = subst (λ z. Brings name (w.world.wire z i)) (sym same)
                (by (brought name (w.world.wire (node_of d) i) sent.0 h.turn.reported.began sent.2 (subst (Brings name) sent.1 (subst (λ z. Brings name (v.world.wire z i)) same g))))
            go (inr apart_is) = subst (Brings name) (way_same p apart_is) g

        brought_still : (p : ℕ) → Brings name (w.world.wire p i) → Brings name (v.world.wire p i)
        brought_still p g = go (cases_eq p (node_of d))
          where
            go : (p ≡ node_of d) ⊎ (p ≡ node_of d → ⊥) → Brings name (v.world.wire p i)
            go (inl same) = subst (λ z. Brings name (v.world.wire z i)) (sym same)
                (subst (Brings name) (sym sent.1) (brings_more name (w.world.wire (node_of d) i) (map Sent sent.0) (subst (λ z. Brings name (w.world.wire z i)) same g)))
            go (inr apart_is) = subst (Brings name) (sym (way_same p apart_is)) g

        kept_none : marks i name v.world.reported ≡ ms → AllTaken w ms ⊎ LastDue w ms → AllTaken v ms ⊎ LastDue v ms
        kept_none are (inl t) = inl (record { good = good_same ms t.good; none = λ p pair unseen g. t.none p pair (sym (lost_same (name_at config p)) ∙ unseen) (brought_before p g) })
        kept_none are (inr l) = inr (go (cases_eq l.e.node (node_of d)))
          where
            unseen_now : (v.world.node i).lost (name_at config l.e.node) ≡ false
            unseen_now = lost_same (name_at config l.e.node) ∙ l.unseen

            way_now : v.gone l.e.node ≡ false → Brings name (v.world.wire l.e.node i)
            way_now lives_ = brought_still l.e.node (l.way (ap (λ (f : ℕ → Bool). f l.e.node) (sym same_gone) ∙ lives_))

            go : (l.e.node ≡ node_of d) ⊎ (l.e.node ≡ node_of d → ⊥) → LastDue v ms
            go (inl same) =
                let g = way_now (ap (λ (f : ℕ → Bool). f l.e.node) same_gone ∙ (ap w.gone same ∙ alive)) in
                let b = bringing config apart name v bv l.e.node i l.there here l.other (near_now l.e.node l.there unseen_now) unseen_now g (all_entries l.front) l.e l.there (history_is l.front l.e false (are ∙ l.is)) lived in
                record { front = l.front; e = l.e; is = l.is; good = good_same l.front l.good; there = l.there; other = l.other; unseen = unseen_now; way = way_now; number = b.number; used = b.used; op = b.op }
            go (inr apart_is) = record {
              front = l.front;
              e = l.e;
              is = l.is;
              good = good_same l.front l.good;
              there = l.there;
              other = l.other;
              unseen = unseen_now;
              way = way_now;
              number = l.number;
              used = subst (λ (s : State). IsUpdateOf name (s.uses l.number)) (sym (all.states l.e.node apart_is)) l.used;
              op = subst (λ (s : State). IsOpOf (s.uses l.number) l.e.op) (sym (all.states l.e.node apart_is)) l.op;
            }

        none_marking : of_group name (entry_of (node_of d) h.turn.reported.began) ≡ [] → Marking v
        none_marking empty =
            let are : marks i name v.world.reported ≡ ms = marks_are ∙ (λ k. marked_after (empty k) (not_own k) (marks i name w.world.reported)) in
            record {
              log = ap (λ xs. updates_of (left_of xs)) are ∙ (old.log ∙ sym applied_same);
              kept = subst (λ xs. AllTaken v xs ⊎ LastDue v xs) (sym are) (kept_none are old.kept);
            }

      -- where one begins
      module _ (op : OpId) (u : Update) (some : h.turn.reported.began ≡ Some (op, u)) (named : name_of u ≡ name) where
        abbrev entry : Entry
        entry = record { node = node_of d; op = op; update = u }

        carries : carried sent.0 ≡ u ∷ []
        carries = sent.2 ∙ ap begun some

        brings_it : Brings name (v.world.wire (node_of d) i)
        brings_it = subst (Brings name) (sym sent.1) (brings_sent name (w.world.wire (node_of d) i) sent.0 u carries named)

        kept_one : marks i name v.world.reported ≡ ms ++ (entry, false) ∷ [] → AllTaken w ms ⊎ LastDue w ms → LastDue v (ms ++ (entry, false) ∷ [])
        kept_one are (inl t) =
            let b = bringing config apart name v bv (node_of d) i x_here here other (near_now (node_of d) x_here x_unseen) x_unseen brings_it (all_entries ms) entry x_here (history_is ms entry false are) lived in
            record {
              front = ms;
              e = entry;
              is = refl;
              good = good_same ms t.good;
              there = x_here;
              other = other;
              unseen = x_unseen;
              way = λ _. brings_it;
              number = b.number;
              used = b.used;
              op = b.op;
            }
        kept_one are (inr l) = absurd (go (cases_eq l.e.node (node_of d)))
          where
            unseen_now : (v.world.node i).lost (name_at config l.e.node) ≡ false
            unseen_now = lost_same (name_at config l.e.node) ∙ l.unseen

            go : (l.e.node ≡ node_of d) ⊎ (l.e.node ≡ node_of d → ⊥) → ⊥
            go (inl same) =
                let g : Brings name (w.world.wire (node_of d) i) = subst (λ z. Brings name (w.world.wire z i)) same (l.way (ap w.gone same ∙ alive)) in
                once_brought config apart name v bv (node_of d) i x_here here other (near_now (node_of d) x_here x_unseen) x_unseen g.front (g.rest ++ map Sent sent.0) g.reference g.update
                (sent.1 ∙ (ap (λ ys. ys ++ map Sent sent.0) g.is ∙ append_assoc g.front (Sent (Call g.reference (Change g.update)) ∷ g.rest) (map Sent sent.0))) g.named
                (brings_sent name g.rest sent.0 u carries named)
            go (inr apart_is) =
                let told = told_under config apart name v bv (node_of d) i x_here here other (near_now (node_of d) x_here x_unseen) x_unseen brings_it in
                apart_is (one_under config apart name v bv l.e.node (node_of d) i l.number told.0 l.there x_here here (near_now l.e.node l.there unseen_now) (near_now (node_of d) x_here x_unseen)
                (subst (λ (s : State). IsUpdateOf name (s.uses l.number)) (sym (all.states l.e.node apart_is)) l.used) told.1)

        one_marking : of_group name (entry_of (node_of d) h.turn.reported.began) ≡ entry ∷ [] → Marking v
        one_marking single =
            let are : marks i name v.world.reported ≡ ms ++ (entry, false) ∷ [] = marks_are ∙ (λ k. marked_after (single k) (not_own k) (marks i name w.world.reported)) in
            record {
              log = ap (λ xs. updates_of (left_of xs)) are ∙ (ap updates_of (left_more ms entry false ∙ append-nil (left_of ms)) ∙ (old.log ∙ sym applied_same));
              kept = subst (λ xs. AllTaken v xs ⊎ LastDue v xs) (sym are) (inr (kept_one are old.kept));
            }

      others_marking : Marking v
      others_marking = go (begins i name (node_of d) h.turn.reported.began)
        where
          go : Begun i name (node_of d) h.turn.reported.began (of_group name (entry_of (node_of d) h.turn.reported.began)) → Marking v
          go (NoneBegun empty none) = none_marking none empty
          go (OneBegun op u some named single) = one_marking op u some named single

    -- ---- by the node itself

    module _ (own : node_of d ≡ i) where
      made_here : (losing_machine_of config).step i (w.world.node i) h.input ≡ Some h.turn
      made_here = subst (λ z. (losing_machine_of config).step z (w.world.node z) h.input ≡ Some h.turn) own h.made

      state_is : v.world.node i ≡ h.turn.state
      state_is = subst (λ z. v.world.node z ≡ h.turn.state) own all.state

      states_other : (p : ℕ) → p ≢ i → v.world.node p ≡ w.world.node p
      states_other p n = all.states p (λ e. n (e ∙ own))

      applied_own : applied_by i name v.world.reported ≡ applied_by i name w.world.reported ++ update_of name h.turn.reported.applied
      applied_own = applied_are ∙ ap (λ b. applied_by i name w.world.reported ++ cond b (update_of name h.turn.reported.applied) []) (eq-eqb (node_of d) i own)

      marks_own : (es : List Entry) (b : Bool) → of_group name (entry_of (node_of d) h.turn.reported.began) ≡ es → is_update_of name h.turn.reported.applied ≡ b → marks i name v.world.reported ≡ marked_after es b ms
      marks_own es b begins_ applies_ = marks_are ∙ (λ k. marked_after (begins_ k) (eq-eqb (node_of d) i own k && applies_ k) (marks i name w.world.reported))

      pair_to : (p : ℕ) → IsHere config p → p ≢ i → is_pair (length config) i p ≡ true
      pair_to p there n = (λ k. here k && (there k && not (nat_eq i p))) ∙ ap not (ne_eqb i p (λ e. n (sym e)))

      -- what came of a way to it
      data WayTo (p : ℕ) : Type 0 where
        First : (packet : Noticed Message) → h.input ≡ Taken p packet → w.world.wire p i ≡ packet ∷ v.world.wire p i → WayTo p
        Same : ((packet : Noticed Message) → h.input ≡ Taken p packet → ⊥) → v.world.wire p i ≡ w.world.wire p i → WayTo p

      way_to : (p : ℕ) → is_pair (length config) i p ≡ true → WayTo p
      way_to p pair = go (way_after (losing_machine_of config) w.world v.world d h p i)
        where
          go : WayAfter (node_of d) h.input p i (h.turn.sends i) (w.world.wire p i) (v.world.wire p i) → WayTo p
          go (Grown at is) = absurd (pair_apart (length config) i p pair (sym (at ∙ own)))
          go (Shorter packet n to taken first) = First packet taken first
          go (Unchanged n m is) = Same (λ packet e. m packet (sym own) e) is

      before : (p : ℕ) → is_pair (length config) i p ≡ true → Brings name (v.world.wire p i) → Brings name (w.world.wire p i)
      before p pair g = go (way_to p pair)
        where
          go : WayTo p → Brings name (w.world.wire p i)
          go (First packet taken first) = subst (Brings name) (sym first) (brings_behind name packet (v.world.wire p i) g)
          go (Same n is) = subst (Brings name) is g

      gone_same : (p : ℕ) → v.gone p ≡ false → w.gone p ≡ false
      gone_same p e = ap (λ (f : ℕ → Bool). f p) (sym same_gone) ∙ e

      -- ---- it sees a loss

      module _ (q : ℕ) (is : h.input ≡ Taken q Last) (same : h.turn ≡ mapped_turn Sent (place_turn config (see_loss (name_at config q) (w.world.node i)))) where
        reported_none : h.turn.reported ≡ nothing
        reported_none = ap (λ (t : Turn State (Noticed Message) Report). t.reported) same

        lost_now : (p : Node) → (v.world.node i).lost p ≡ upd same_atom (w.world.node i).lost (name_at config q) true p
        lost_now p = ap (λ (s : State). s.lost p) (state_is ∙ ap (λ (t : Turn State (Noticed Message) Report). t.state) same)

        grows : (p : Node) → (w.world.node i).lost p ≡ true → (v.world.node i).lost p ≡ true
        grows p e = lost_now p ∙ upd_by same_atom (w.world.node i).lost (name_at config q) (λ b. b ≡ true) true p (λ _. refl) (λ _. e)

        unseen_before : (p : Node) → (v.world.node i).lost p ≡ false → (w.world.node i).lost p ≡ false
        unseen_before p e = not_true ((w.world.node i).lost p) (λ seen. absurd (cc (sym e ∙ grows p seen)))

        are : marks i name v.world.reported ≡ ms
        are = marks_own [] false (ap (λ (z : Report). of_group name (entry_of (node_of d) z.began)) reported_none) (ap (λ (z : Report). is_update_of name z.applied) reported_none)

        applied_same_ : applied_by i name v.world.reported ≡ applied_by i name w.world.reported
        applied_same_ = applied_own ∙ (ap (λ (z : Report). applied_by i name w.world.reported ++ update_of name z.applied) reported_none ∙ append-nil (applied_by i name w.world.reported))

        -- of the node whose update is due
        module _ (l : LastDue w ms) (it : name_at config l.e.node ≡ name_at config q) where
          seen_now : (v.world.node i).lost (name_at config l.e.node) ≡ true
          seen_now = lost_now (name_at config l.e.node) ∙ read_at same_atom atoms (w.world.node i).lost (name_at config q) true (name_at config l.e.node) it

          none_now : answered_count l.e.node l.e.op v.world.reported ≡ 0
          none_now =
              ap (answered_count l.e.node l.e.op) all.reported
              ∙ (answered_other (node_of d) l.e.node l.e.op h.turn.reported w.world.reported (λ e. l.other (sym e ∙ own))
              ∙ (sym (answers_shown config apart (whole_of config apart w bw.has.ways) bw.has.world bw.has.shows bw.places l.e.node l.e.op l.there)
              ∙ unanswered bw.has.world (name_at config i) (name_at config i) (bw.has.world.seat (name_at config i)) bw.has.inv name (name_at config l.e.node) l.number (by_name config l.e) refl
              (subst (λ (s : State). IsUpdateOf name (s.uses l.number)) (sym (bw.has.shows.node l.e.node l.there)) l.used)
              (subst (λ (s : State). IsOpOf (s.uses l.number) l.e.op) (sym (bw.has.shows.node l.e.node l.there)) l.op)))

          missed_now : AllTaken v ms
          missed_now = record {
            good = subst (Good v) (sym l.is) (good_missed w v l.front l.e l.unseen l.good (good_later w v l.front grows still_out l.good) (l.there, seen_now, none_now));
            none = λ p pair unseen g.
                let there : IsHere config p = pair_second (length config) i p pair in
                let known : (w.world.node i).lost (name_at config p) ≡ false = unseen_before (name_at config p) unseen in
                let told = told_under config apart name w bw p i there here (λ e. pair_apart (length config) i p pair (sym e)) (near_then p there known) known (before p pair g) in
                let one : p ≡ l.e.node = one_under config apart name w bw p l.e.node i told.0 l.number there l.there here (near_then p there known) (near_then l.e.node l.there l.unseen) told.1 l.used in
                absurd (cc (sym unseen ∙ (ap (λ z. (v.world.node i).lost (name_at config z)) one ∙ seen_now)));
          }

        saw_kept : AllTaken w ms ⊎ LastDue w ms → AllTaken v ms ⊎ LastDue v ms
        saw_kept (inl t) = inl (record {
          good = good_later w v ms grows still_out t.good;
          none = λ p pair unseen g. t.none p pair (unseen_before (name_at config p) unseen) (before p pair g);
        })
        saw_kept (inr l) = go (split same_atom atoms (name_at config l.e.node) (name_at config q))
          where
            go : (name_at config l.e.node ≡ name_at config q) ⊎ (name_at config l.e.node ≢ name_at config q) → AllTaken v ms ⊎ LastDue v ms
            go (inl it) = inl (missed_now l it)
            go (inr apart_is) = inr (record {
              front = l.front;
              e = l.e;
              is = l.is;
              good = good_later w v l.front grows still_out l.good;
              there = l.there;
              other = l.other;
              unseen = lost_now (name_at config l.e.node) ∙ (read_other same_atom atoms (w.world.node i).lost (name_at config q) true (name_at config l.e.node) apart_is ∙ l.unseen);
              way = λ lives_. still (l.way (gone_same l.e.node lives_)) (way_to l.e.node (pair_to l.e.node l.there l.other));
              number = l.number;
              used = subst (λ (s : State). IsUpdateOf name (s.uses l.number)) (sym (states_other l.e.node l.other)) l.used;
              op = subst (λ (s : State). IsOpOf (s.uses l.number) l.e.op) (sym (states_other l.e.node l.other)) l.op;
            })
              where
                still : Brings name (w.world.wire l.e.node i) → WayTo l.e.node → Brings name (v.world.wire l.e.node i)
                still g (First packet taken first) = absurd (apart_is (ap (name_at config) (peer_same (sym taken ∙ is))))
                still g (Same n same_way) = subst (Brings name) (sym same_way) g

        saw_marking : Marking v
        saw_marking = record {
          log = ap (λ xs. updates_of (left_of xs)) are ∙ (old.log ∙ sym applied_same_);
          kept = subst (λ xs. AllTaken v xs ⊎ LastDue v xs) (sym are) (saw_kept old.kept);
        }

      -- ---- it takes a step

      module _ (given : Input Message Action) (t : Turn State Message Report) (is : h.input ≡ noted given) (made_ : node_step config i (w.world.node i) given ≡ Some t) (same : h.turn ≡ mapped_turn Sent t) where
        lost_same_ : (q : Node) → (v.world.node i).lost q ≡ (w.world.node i).lost q
        lost_same_ q = ap (λ (s : State). s.lost q) (state_is ∙ ap (λ (z : Turn State (Noticed Message) Report). z.state) same) ∙ ap (λ (f : Node → Bool). f q) (step_sees_none config i (w.world.node i) given t made_)

        good_own : (xs : Marked) → Good w xs → Good v xs
        good_own xs g = good_later w v xs (λ q e. lost_same_ q ∙ e) still_out g

        takes : StepApplies given h.turn.reported
        takes = subst (StepApplies given) (ap (λ (z : Turn State (Noticed Message) Report). z.reported) (sym same)) (step_applies config i (w.world.node i) given t made_)

        all_before : (xs : Marked) → AllTaken w ms → Good v xs → AllTaken v xs
        all_before xs t good = record { good = good; none = λ p pair unseen g. t.none p pair (sym (lost_same_ (name_at config p)) ∙ unseen) (before p pair g) }

        -- an update begins
        module _ (op : OpId) (u : Update) (some : h.turn.reported.began ≡ Some (op, u)) (named : name_of u ≡ name)
            (single : of_group name (entry_of (node_of d) h.turn.reported.began) ≡ record { node = node_of d; op = op; update = u } ∷ []) where
          abbrev entry_ : Entry
          entry_ = record { node = node_of d; op = op; update = u }

          yes : same_term name (name_of u) ≡ true
          yes = same_is same_term terms name (name_of u) (sym named)

          applied_it : h.turn.reported.applied ≡ Some u
          applied_it = go takes
            where
              go : StepApplies given h.turn.reported → h.turn.reported.applied ≡ Some u
              go (Begins eq never) = eq ∙ ap begun_one some
              go (Told p reference other from applied_ none) = absurd (cc (sym none ∙ some))

          are_one : marks i name v.world.reported ≡ ms ++ (entry_, true) ∷ []
          are_one = marks_own (entry_ ∷ []) true single (ap (is_update_of name) applied_it ∙ yes)

          kept_own : AllTaken w ms ⊎ LastDue w ms → AllTaken v (ms ++ (entry_, true) ∷ [])
          kept_own (inl t) = all_before (ms ++ (entry_, true) ∷ []) t (good_taken v ms entry_ (good_own ms t.good))
          kept_own (inr l) =
              let unseen_now : (v.world.node i).lost (name_at config l.e.node) ≡ false = lost_same_ (name_at config l.e.node) ∙ l.unseen in
              let s = sent_to l.e.node l.there (λ e. l.other (sym e ∙ own)) (ap (λ z. (w.world.node z).lost (name_at config l.e.node)) own ∙ l.unseen) in
              let g : Brings name (v.world.wire i l.e.node) = subst (λ z. Brings name (v.world.wire z l.e.node)) own
              (subst (Brings name) (sym s.1) (brings_sent name (w.world.wire (node_of d) l.e.node) s.0 u (s.2 ∙ ap begun some) named)) in
              let told = told_under config apart name v bv i l.e.node here l.there (λ e. l.other (sym e))
              (near_swap bv.has.world (name_at config l.e.node) (name_at config i) (near_now l.e.node l.there unseen_now)) (unlost_now l.e.node l.there) g in
              absurd (l.other (one_under config apart name v bv l.e.node i i l.number told.0 l.there here here (near_now l.e.node l.there unseen_now)
              (live_own bv.has.world (name_at config i) (live_at config apart v bv.has i here lived))
              (subst (λ (s : State). IsUpdateOf name (s.uses l.number)) (sym (states_other l.e.node l.other)) l.used) told.1))

          began_marking : Marking v
          began_marking = record {
            log =
                ap (λ xs. updates_of (left_of xs)) are_one ∙ (ap updates_of (left_more ms entry_ true) ∙ (map-append (λ (e : Entry). e.update) (left_of ms) (entry_ ∷ [])
                ∙ (ap (λ us. us ++ u ∷ []) old.log ∙ sym (applied_own ∙ (ap (λ o. applied_by i name w.world.reported ++ update_of name o) applied_it ∙ ap (λ b. applied_by i name w.world.reported ++ cond b (u ∷ []) []) yes)))));
            kept = subst (λ xs. AllTaken v xs ⊎ LastDue v xs) (sym are_one) (inl (kept_own old.kept));
          }

        -- none begins
        module _ (empty : of_group name (entry_of (node_of d) h.turn.reported.began) ≡ []) where
          -- and none is applied
          module _ (no_update : is_update_of name h.turn.reported.applied ≡ false) (no_more : update_of name h.turn.reported.applied ≡ [])
              (not_first : (p : ℕ) (r : RefParts) (u : Update) → given ≡ Taken p (Call r (Change u)) → name_of u ≡ name → ⊥) where
            are_same : marks i name v.world.reported ≡ ms
            are_same = marks_own [] false empty no_update

            kept_still : AllTaken w ms ⊎ LastDue w ms → AllTaken v ms ⊎ LastDue v ms
            kept_still (inl t) = inl (all_before ms t (good_own ms t.good))
            kept_still (inr l) = inr (record {
              front = l.front;
              e = l.e;
              is = l.is;
              good = good_own l.front l.good;
              there = l.there;
              other = l.other;
              unseen = lost_same_ (name_at config l.e.node) ∙ l.unseen;
              way = λ lives_. still (l.way (gone_same l.e.node lives_)) (way_to l.e.node (pair_to l.e.node l.there l.other));
              number = l.number;
              used = subst (λ (s : State). IsUpdateOf name (s.uses l.number)) (sym (states_other l.e.node l.other)) l.used;
              op = subst (λ (s : State). IsOpOf (s.uses l.number) l.e.op) (sym (states_other l.e.node l.other)) l.op;
            })
              where
                still : Brings name (w.world.wire l.e.node i) → WayTo l.e.node → Brings name (v.world.wire l.e.node i)
                still g (Same n same_way) = subst (Brings name) (sym same_way) g
                still g (First packet taken first) = go (brings_tail name packet (v.world.wire l.e.node i) (subst (Brings name) first g))
                  where
                    go : ((r : RefParts) × (u : Update) × (packet ≡ Sent (Call r (Change u))) × (name_of u ≡ name)) ⊎ Brings name (v.world.wire l.e.node i) → Brings name (v.world.wire l.e.node i)
                    go (inr behind) = behind
                    go (inl (r, u, it, named)) = absurd (not_first l.e.node r u (packet_is given l.e.node (Call r (Change u)) (sym is ∙ (taken ∙ ap (Taken l.e.node) it))) named)

            still_marking : Marking v
            still_marking = record {
              log = ap (λ xs. updates_of (left_of xs)) are_same
                  ∙ (old.log ∙ sym (applied_own ∙ (ap (λ us. applied_by i name w.world.reported ++ us) no_more ∙ append-nil (applied_by i name w.world.reported))));
              kept = subst (λ xs. AllTaken v xs ⊎ LastDue v xs) (sym are_same) (kept_still old.kept);
            }

          -- an update is taken
          module _ (p : ℕ) (r : RefParts) (u : Update) (from : given ≡ Taken p (Call r (Change u))) (applied_ : h.turn.reported.applied ≡ Some u) (named : name_of u ≡ name) where
            input_is : h.input ≡ Taken p (Sent (Call r (Change u)))
            input_is = is ∙ ap noted from

            pair_p : is_pair (length config) i p ≡ true
            pair_p = subst (λ z. is_pair (length config) z p ≡ true) own (pair_there (losing_machine_of config) w.world v.world d h p (Sent (Call r (Change u))) input_is)

            p_here : IsHere config p
            p_here = pair_second (length config) i p pair_p

            p_other : p ≢ i
            p_other e = pair_apart (length config) i p pair_p (sym e)

            p_unseen : (w.world.node i).lost (name_at config p) ≡ false
            p_unseen = not_true ((w.world.node i).lost (name_at config p)) (λ seen. unheard_input config i p (w.world.node i) (Sent (Call r (Change u))) h.turn seen
                (subst (λ z. (losing_machine_of config).step i (w.world.node i) z ≡ Some h.turn) input_is made_here))

            stood_first : w.world.wire p i ≡ Sent (Call r (Change u)) ∷ v.world.wire p i
            stood_first = go (way_to p pair_p)
              where
                go : WayTo p → w.world.wire p i ≡ Sent (Call r (Change u)) ∷ v.world.wire p i
                go (First packet taken first) = first ∙ ap (λ z. z ∷ v.world.wire p i) (packet_same (sym taken ∙ input_is))
                go (Same n same_way) = absurd (n (Sent (Call r (Change u))) input_is)

            abbrev it_brings : Brings name (w.world.wire p i)
            it_brings = record { front = []; rest = v.world.wire p i; reference = r; update = u; is = stood_first; named = named }

            yes_ : same_term name (name_of u) ≡ true
            yes_ = same_is same_term terms name (name_of u) (sym named)

            module _ (l : LastDue w ms) where
              it_is : Bringing config apart name w bw p i p_here here p_other (near_then p p_here p_unseen) p_unseen l.e u
              it_is = bringing config apart name w bw p i p_here here p_other (near_then p p_here p_unseen) p_unseen it_brings (all_entries l.front) l.e l.there
                  (sym (marked_history i name w.world.reported) ∙ (ap all_entries l.is ∙ map-append (λ m. m.0) l.front ((l.e, false) ∷ []))) lives

              are_taken : marks i name v.world.reported ≡ l.front ++ (l.e, true) ∷ []
              are_taken = marks_own [] true empty (ap (is_update_of name) applied_ ∙ yes_) ∙ (ap last_applied l.is ∙ last_marked l.front l.e false)

              kept_taken : AllTaken v (l.front ++ (l.e, true) ∷ [])
              kept_taken = record {
                good = good_taken v l.front l.e (good_own l.front l.good);
                none = λ q pair unseen g.
                    let there : IsHere config q = pair_second (length config) i q pair in
                    let known : (w.world.node i).lost (name_at config q) ≡ false = sym (lost_same_ (name_at config q)) ∙ unseen in
                    let told = told_under config apart name w bw q i there here (λ e. pair_apart (length config) i q pair (sym e)) (near_then q there known) known (before q pair g) in
                    let one : q ≡ l.e.node = one_under config apart name w bw q l.e.node i told.0 l.number there l.there here (near_then q there known) (near_then l.e.node l.there l.unseen) told.1 l.used in
                    let same_one : q ≡ p = one ∙ it_is.node in
                    once_brought config apart name w bw p i p_here here p_other (near_then p p_here p_unseen) p_unseen [] (v.world.wire p i) r u stood_first named
                    (subst (λ z. Brings name (v.world.wire z i)) same_one g);
              }

              taken_marking : Marking v
              taken_marking = record {
                log =
                    ap (λ xs. updates_of (left_of xs)) are_taken ∙ (ap updates_of (left_more l.front l.e true) ∙ (map-append (λ (e : Entry). e.update) (left_of l.front) (l.e ∷ [])
                    ∙ ((λ k. front_log k ++ it_is.update k ∷ []) ∙ sym (applied_own ∙ (ap (λ o. applied_by i name w.world.reported ++ update_of name o) applied_ ∙ ap (λ b. applied_by i name w.world.reported ++ cond b (u ∷ []) []) yes_)))));
                kept = subst (λ xs. AllTaken v xs ⊎ LastDue v xs) (sym are_taken) (inl kept_taken);
              }
                where
                  front_log : updates_of (left_of l.front) ≡ applied_by i name w.world.reported
                  front_log = ap updates_of (sym (ap left_of l.is ∙ (left_more l.front l.e false ∙ append-nil (left_of l.front)))) ∙ old.log

            told_marking : AllTaken w ms ⊎ LastDue w ms → Marking v
            told_marking (inl t) = absurd (t.none p pair_p p_unseen it_brings)
            told_marking (inr l) = taken_marking l

          none_begins : ((op : OpId) (u : Update) → h.turn.reported.began ≡ Some (op, u) → name_of u ≡ name → ⊥) → Marking v
          none_begins none = go takes (applied_one i name h.turn.reported.applied)
            where
              go : StepApplies given h.turn.reported → Applied i name h.turn.reported.applied → Marking v
              go (Begins eq never) (NoneApplied no_update no_more differs) = still_marking no_update no_more (λ p r u from named. never p r u from)
              go (Begins eq never) (OneApplied u some named _ more) =
                  let b = begun_some h.turn.reported.began u (sym eq ∙ some) in
                  absurd (none b.0 u b.1 named)
              go (Told p r u from applied_ none_) (NoneApplied no_update no_more differs) = still_marking no_update no_more (λ q s v' also named. differs u applied_ (ap name_of (call_same (sym from ∙ also)) ∙ named))
              go (Told p r u from applied_ none_) (OneApplied v' some named _ more) = told_marking p r u from applied_ (ap name_of (some_is (sym applied_ ∙ some)) ∙ named) old.kept

        stepped_marking : Marking v
        stepped_marking = go (begins i name (node_of d) h.turn.reported.began)
          where
            go : Begun i name (node_of d) h.turn.reported.began (of_group name (entry_of (node_of d) h.turn.reported.began)) → Marking v
            go (NoneBegun empty none) = none_begins empty none
            go (OneBegun op u some named single) = began_marking op u some named single

      own_marking : Marking v
      own_marking = go (makes config i (w.world.node i) h.input h.turn made_here)
        where
          go : Makes config i (w.world.node i) h.input h.turn → Marking v
          go (Steps given t is made same) = stepped_marking given t is made same
          go (Sees q is not_yet same) = saw_marking q is same

    went_marking : Marking v
    went_marking = go (cases_eq (node_of d) i)
      where
        go : (node_of d ≡ i) ⊎ (node_of d ≡ i → ⊥) → Marking v
        go (inl own) = own_marking own
        go (inr other) = others_marking other

  -- ---- runs

  passed_marking : (w v : Lossy) (e : LosingEvent Action) → Bridged config apart w → Bridged config apart v → Passed config w v e → (w.gone i ≡ false → Marking w) → v.gone i ≡ false → Marking v
  passed_marking w v e bw bv (Went d is alive h same) old lived =
      let lives : w.gone i ≡ false = ap (λ (f : ℕ → Bool). f i) (sym same) ∙ lived in
      went_marking w v bw bv lives lived (old lives) d alive h same
  passed_marking w v e bw bv (Died j keep is there alive cut gone) old lived =
      let lives : w.gone i ≡ false = by_place w.gone j true (λ b. b ≡ false → w.gone i ≡ false) i (λ _ e. absurd (cc e)) (λ _ e. e) (ap (λ (f : ℕ → Bool). f i) (sym gone) ∙ lived) in
      subst Marking (world_is v (stopped (length config) silent w.world j keep) (set_at w.gone j true) (sym cut) (sym gone)) (cut_marking w j keep (old lives))
    where
      world_is : (u : Lossy) (z : World State (Noticed Message) Report) (gone : ℕ → Bool) → z ≡ u.world → gone ≡ u.gone → ◌≡◌ {A = Lossy} (record { world = z; gone = gone }) u
      world_is u z gone e f = λ k. record { world = e k; gone = f k }

  first_marking : Marking (bare (nobody_gone (start_of (losing_frame_machine config))))
  first_marking = subst (λ (u : World State (Noticed Message) Report). Marking (nobody_gone u)) (sym (plain_start (losing_machine_of config) CLOCK_LIMIT)) (record {
    log = refl;
    kept = inl (record {
      good = record { each = tt; few = λ node. omega arith };
      none = λ p pair unseen g. no_call (is_pair (length config) p i) (name_at config p) (groups_at config p) g;
    });
  })
    where
      no_call : (b : Bool) (q : Node) (groups : GroupList) → Brings name (map Sent (cond b (Exchange q groups ∷ []) [])) → ⊥
      no_call true q groups g = go g.front g.is
        where
          go : (front : List (Noticed Message)) → Sent (Exchange q groups) ∷ [] ≡ front ++ Sent (Call g.reference (Change g.update)) ∷ g.rest → ⊥
          go [] is = absurd (cc is)
          go (y ∷ []) is = absurd (cc is)
          go (y ∷ z ∷ front) is = absurd (cc is)
      no_call false q groups g = go g.front g.is
        where
          go : (front : List (Noticed Message)) → [] ≡ front ++ Sent (Call g.reference (Change g.update)) ∷ g.rest → ⊥
          go [] is = absurd (cc is)
          go (y ∷ front) is = absurd (cc is)

  pub marking : (es : List (LosingEvent Action)) (w : LosingFrameWorld) → LosingReaches config es w → w.gone i ≡ false → Marking (bare w)
  marking es w l = kept_all config (λ done u. u.gone i ≡ false → Marking (bare u))
      (λ done u v e r h old. passed_marking (bare u) (bare v) e (bridged config apart done u r)
      (bridged config apart (done ++ e ∷ []) v (leads_more config done (nobody_gone (start_of (losing_frame_machine config))) u v e r h)) (passed config u v e h) old) es w l (λ _. first_marking)
