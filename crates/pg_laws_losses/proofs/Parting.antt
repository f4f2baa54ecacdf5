-- A node sees the loss of another: all stays that is held of the locks.
use Rattle.std.proofs.Common.{◌≡◌, ◌≢◌, ℕ, ◌+◌, ◌<◌, ◌≤◌, Bool, true, false, not, ◌&&◌, cond}
use Rattle.std.proofs.Common.{Option, Some, None, refl, ap, sym, ◌∙◌, subst, inl, inr, ◌⊎◌, arith}
use Rattle.std.specs.List.{list_any}
use Rattle.pg_term.specs.declared.term.Term.{Term}
use Rattle.pg_term.specs.RefParts.{RefParts, ref_eq}
use Rattle.pg_term.specs.Same.{same_atom}
use Rattle.pg_laws.specs.PgRefs.Numbered.{numbered}
use Rattle.pg_laws.specs.PgGroup.declared.update.Update.{Update}
use Rattle.pg_laws.specs.PgGroup.Functions.{upd}
use Rattle.pg_laws.specs.PgGroup.Value.{name_of}
use Rattle.pg_laws.specs.PgLock.Locks.{freed_of, is_holder}
use Rattle.pg_laws.specs.PgStep.declared.command.OpId.{OpId}
use Rattle.pg_laws.specs.PgStep.Losses.{forgets, see_loss}
use Rattle.pg_laws.specs.PgStep.Nodes.{Node, Nodes}
use Rattle.pg_laws.specs.PgStep.State.{State, Use, Stage}
use Rattle.pg_laws.specs.PgStep.State.Stage.{Changing}
use Rattle.pg_laws.specs.PgStep.State.Status.{Unasked}
use Rattle.pg_laws.specs.PgStep.State.Use.{Fresh, Spent, Locking, Owning, Updating}
use Rattle.pg_laws.specs.ReferencesFit.{ReferencesFit}
use Rattle.pg_laws.proofs.references.Fitting.{is_changing}
use Rattle.pg_laws.proofs.references.Keys.{atoms, split, at_read, read_at, read_other}
use Rattle.pg_laws.proofs.references.References.{references}
use Rattle.pg_laws.specs.Exclusive.{IsUpdateOf}
use Rattle.pg_laws.proofs.locks.Kept.{Tale, Full, Due, Excused, IsOpOf, updating, IsUpdating}
use Rattle.pg_laws.proofs.locks.Kept.{Inv, Latest, Lines, answers_of, live, near, opens, talk}
use Rattle.pg_laws.proofs.locks.Lines.{Line, Fits, FitsStatus, FitsReply}
use Rattle.pg_laws.proofs.locks.Named.{World, Entry}
use Rattle.pg_laws.proofs.locks.Seats.{Sits}
use Rattle.pg_laws.proofs.locks.Thins.{thin_map, thin_skip}
use Rattle.pg_laws.proofs.locks.Unique.{one_update, update_is}
use Rattle.pg_laws_losses.proofs.Standing.{loss_fits}

-- ---- uses that forget a node

forgets_line : (p q : Node) (used : Use) (line : Line) → q ≢ p → Fits used q line → Fits (forgets p used) q line
forgets_line p q Fresh line apart fit = fit
forgets_line p q Spent line apart fit = fit
forgets_line p q (Owning name n) line apart fit = fit
forgets_line p q (Locking op u lead st) line apart fit = subst (λ v. FitsStatus (name_of u) v line) (sym (read_other same_atom atoms st p Unasked q apart)) fit
forgets_line p q (Updating op u c replied) line apart fit = subst (λ b. FitsReply u b line) (sym (read_other same_atom atoms replied p false q apart)) fit

forgets_update : (p : Node) (N : Term) (used : Use) → IsUpdateOf N used → IsUpdateOf N (forgets p used)
forgets_update p N (Updating op u c replied) is = is
forgets_update p N Fresh is = is
forgets_update p N Spent is = is
forgets_update p N (Owning name n) is = is
forgets_update p N (Locking op u lead st) is = is

was_update : (p : Node) (N : Term) (used : Use) → IsUpdateOf N (forgets p used) → IsUpdateOf N used
was_update p N (Updating op u c replied) is = is
was_update p N Fresh is = is
was_update p N Spent is = is
was_update p N (Owning name n) is = is
was_update p N (Locking op u lead st) is = is

forgets_op : (p : Node) (used : Use) (op : OpId) → IsOpOf used op → IsOpOf (forgets p used) op
forgets_op p _ _ (updating op u c replied) = updating op u c _

forgets_updating : (p : Node) (op : OpId) (u : Update) (used : Use) → IsUpdating op u used → IsUpdating op u (forgets p used)
forgets_updating p op u (Updating o v c replied) is = is
forgets_updating p op u Fresh is = is
forgets_updating p op u Spent is = is
forgets_updating p op u (Owning name n) is = is
forgets_updating p op u (Locking o v lead st) is = is

op_is : (x : Use) (o : OpId) → IsOpOf x o → (op : OpId) (u : Update) (c : ℕ) (rep : Node → Bool) → x ≡ Updating op u c rep → op ≡ o
op_is x o (updating p v d q) op u c rep e = cc

-- ---- locks without a node

holder_home : (h : RefParts) (i : Node) (c : ℕ) → ref_eq h (numbered i c) ≡ true → h.node ≡ i
holder_home h i c e = ap (λ (r : RefParts). r.node) (references.is h (numbered i c) e)

freed_other : (p i : Node) (c : ℕ) (o : Option RefParts) → i ≢ p → is_holder (freed_of p o) (numbered i c) ≡ is_holder o (numbered i c)
freed_other p i c None apart = refl
freed_other p i c (Some h) apart = go (same_atom p h.node) refl (ref_eq h (numbered i c)) refl
  where
    go : (b : Bool) → same_atom p h.node ≡ b → (d : Bool) → ref_eq h (numbered i c) ≡ d → is_holder (cond b None (Some h)) (numbered i c) ≡ ref_eq h (numbered i c)
    go false _ d _ = refl
    go true is false held = sym held
    go true is true held = absurd (apart (sym (holder_home h i c held) ∙ sym (atoms.is p h.node is)))

module _ (w : World) (a p : Node) (seat : Nodes) where
  abbrev s : State
  s = w.node a

  abbrev pub parted : World
  parted = record w {
    seat = upd same_atom w.seat a seat;
    node = upd same_atom w.node a (see_loss p (w.node a)).state;
    seen = upd {A = Node → Bool} same_atom w.seen a (upd same_atom (w.seen a) p true);
  }

  -- ---- who has seen whose loss

  seen_else : (x y : Node) → (x ≡ a → y ≡ p → ⊥) → parted.seen x y ≡ w.seen x y
  seen_else x y n = at_read same_atom atoms (λ (f : Node → Bool). f y ≡ w.seen x y) w.seen a (upd same_atom (w.seen a) p true) x
      (λ e. read_other same_atom atoms (w.seen a) p true y (n e) ∙ ap (λ z. w.seen z y) (sym e)) (λ e. refl)

  seen_here : (x y : Node) → x ≡ a → y ≡ p → parted.seen x y ≡ true
  seen_here x y e f = ap (λ (g : Node → Bool). g y) (read_at same_atom atoms w.seen a (upd same_atom (w.seen a) p true) x e) ∙ read_at same_atom atoms (w.seen a) p true y f

  cases_seen : (x y : Node) → ((x ≡ a) × (y ≡ p)) ⊎ (x ≡ a → y ≡ p → ⊥)
  cases_seen x y = go (split same_atom atoms x a) (split same_atom atoms y p)
    where
      go : (x ≡ a) ⊎ (x ≢ a) → (y ≡ p) ⊎ (y ≢ p) → ((x ≡ a) × (y ≡ p)) ⊎ (x ≡ a → y ≡ p → ⊥)
      go (inl e) (inl f) = inl (e, f)
      go (inr n) _ = inr (λ e f. n e)
      go (inl e) (inr n) = inr (λ e f. n f)

  seen_still : (x y : Node) → w.seen x y ≡ true → parted.seen x y ≡ true
  seen_still x y e = elim (cases_seen x y) [ inl q ↦ seen_here x y q.0 q.1 | inr n ↦ seen_else x y n ∙ e ]

  not_new : (x y : Node) → parted.seen x y ≡ false → x ≡ a → y ≡ p → ⊥
  not_new x y e f g = let z : parted.seen x y ≡ true = seen_here x y f g in cc

  was_unseen : (x y : Node) → parted.seen x y ≡ false → w.seen x y ≡ false
  was_unseen x y e = sym (seen_else x y (not_new x y e)) ∙ e

  was_near : (i q : Node) → near parted i q → near w i q
  was_near i q m = record { home = m.home; peer = m.peer; known = was_unseen q i m.known; counts = was_unseen i q m.counts }

  was_live : (q : Node) → live parted q → live w q
  was_live q l = record { there = l.there; unseen = λ x. was_unseen x q (l.unseen x) }

  -- ---- states

  read_use : (P : Use → Type 0) (i : Node) (n : ℕ) → (i ≡ a → P (forgets p (s.uses n))) → (i ≢ a → P ((w.node i).uses n)) → P ((parted.node i).uses n)
  read_use P i n here there = at_read same_atom atoms (λ (x : State). P (x.uses n)) w.node a (see_loss p (w.node a)).state i here there

  same_stages : (i : Node) → (parted.node i).stages ≡ (w.node i).stages
  same_stages i = at_read same_atom atoms (λ (x : State). x.stages ≡ (w.node i).stages) w.node a (see_loss p (w.node a)).state i (λ e. ap (λ z. (w.node z).stages) (sym e)) (λ n. refl)

  same_counts : (i : Node) → (parted.node i).counts ≡ (w.node i).counts
  same_counts i = at_read same_atom atoms (λ (x : State). x.counts ≡ (w.node i).counts) w.node a (see_loss p (w.node a)).state i (λ e. ap (λ z. (w.node z).counts) (sym e)) (λ n. refl)

  update_was : (N : Term) (i : Node) (n : ℕ) → IsUpdateOf N ((parted.node i).uses n) → IsUpdateOf N ((w.node i).uses n)
  update_was N i n = read_use (λ x. IsUpdateOf N x → IsUpdateOf N ((w.node i).uses n)) i n
      (λ e is. subst (λ z. IsUpdateOf N ((w.node z).uses n)) (sym e) (was_update p N (s.uses n) is)) (λ _ is. is)

  update_still : (N : Term) (i : Node) (n : ℕ) → IsUpdateOf N ((w.node i).uses n) → IsUpdateOf N ((parted.node i).uses n)
  update_still N i n = read_use (λ x. IsUpdateOf N ((w.node i).uses n) → IsUpdateOf N x) i n
      (λ e is. forgets_update p N (s.uses n) (subst (λ z. IsUpdateOf N ((w.node z).uses n)) e is)) (λ _ is. is)

  op_still : (i : Node) (n : ℕ) (op : OpId) → IsOpOf ((w.node i).uses n) op → IsOpOf ((parted.node i).uses n) op
  op_still i n op = read_use (λ x. IsOpOf ((w.node i).uses n) op → IsOpOf x op) i n
      (λ e is. forgets_op p (s.uses n) op (subst (λ z. IsOpOf ((w.node z).uses n) op) e is)) (λ _ is. is)

  updating_still : (op : OpId) (u : Update) (i : Node) (n : ℕ) → IsUpdating op u ((w.node i).uses n) → IsUpdating op u ((parted.node i).uses n)
  updating_still op u i n = read_use (λ x. IsUpdating op u ((w.node i).uses n) → IsUpdating op u x) i n
      (λ e is. forgets_updating p op u (s.uses n) (subst (λ z. IsUpdating op u ((w.node z).uses n)) e is)) (λ _ is. is)

  -- ---- what is held

  parted_lines : Inv w → Lines parted
  parted_lines inv i c q m =
      let l : talk w i c q = inv.lines i c q (was_near i q m) in
      record {
        line = l.line;
        fits = read_use (λ x. Fits x q l.line) i c
            (λ e. forgets_line p q (s.uses c) l.line (λ f. not_new i q m.counts e f) (subst (λ z. Fits ((w.node z).uses c) q l.line) e l.fits)) (λ _. l.fits);
        out_is = l.out_is;
        back_is = l.back_is;
        hold_is = λ M. locks M ∙ l.hold_is M;
      }
    where
      locks : (M : Term) → is_holder ((parted.node q).locks M) (numbered i c) ≡ is_holder ((w.node q).locks M) (numbered i c)
      locks M = at_read same_atom atoms (λ (x : State). is_holder (x.locks M) (numbered i c) ≡ is_holder ((w.node q).locks M) (numbered i c)) w.node a (see_loss p (w.node a)).state q
          (λ e. freed_other p i c (s.locks M) (λ f. not_new q i m.known e f) ∙ ap (λ z. is_holder ((w.node z).locks M) (numbered i c)) (sym e)) (λ _. refl)

  excused : (q : Node) (e : Entry) → Excused w q e → Excused parted q e
  excused q e x = (seen_still q e.node x.0, x.1)

  -- an update that is under way is not answered
  pub unanswered : Inv w → (N : Term) (i : Node) (n : ℕ) (e : Entry) → e.node ≡ i → IsUpdateOf N ((w.node i).uses n) → IsOpOf ((w.node i).uses n) e.op → answers_of e.node e.op w.answered ≡ 0
  unanswered inv N i n e node is command =
      let u = update_is N ((w.node i).uses n) is in
      let changing : (w.node e.node).stages e.op ≡ Changing n = ap (λ z. (w.node z).stages e.op) node
      ∙ (ap (w.node i).stages (sym (op_is ((w.node i).uses n) e.op command u.op u.update u.lock u.rep u.is)) ∙ is_changing (inv.fitting i) n u.op u.update u.lock u.rep u.is) in
      let known : opens ((w.node e.node).stages e.op) + answers_of e.node e.op w.answered ≤ 1 = inv.once.known e.node e.op in
      let one : opens ((w.node e.node).stages e.op) ≡ 1 = ap opens changing in
      omega (arith, known, one)

  -- the last update of the lost node did not come
  missed : Inv w → (N : Term) (q : Node) → q ≡ a → (d : Due w N q) → d.i ≡ p → Full parted N q
  missed inv N q here d it =
      let gone : parted.seen q d.last.node ≡ true = seen_here q d.last.node here (d.node ∙ it) in
      record {
        thin = thin_skip d.last (thin_map (excused q) (λ i x. x) refl refl d.thin) (seen_still q) (ap (w.seen q) d.node ∙ d.near_it.known) gone
            (gone, unanswered inv N d.i d.n d.last d.node d.update d.command) d.is;
        clear = λ i n m u. absurd (not_new q i m.known here ((one_update w inv i n d.i d.n N q (was_near i q m) d.near_it (update_was N i n u) d.update).0 ∙ it));
      }

  parted_tale : Inv w → (N : Term) (q : Node) → live parted q → Tale w N q → Tale parted N q
  parted_tale inv N q lq (inl f) = inl (record {
    thin = thin_map (excused q) (seen_still q) refl refl f.thin;
    clear = λ i n m u. f.clear i n (was_near i q m) (update_was N i n u);
  })
  parted_tale inv N q lq (inr d) = go (cases_seen q d.i)
    where
      go : ((q ≡ a) × (d.i ≡ p)) ⊎ (q ≡ a → d.i ≡ p → ⊥) → Tale parted N q
      go (inl x) = inl (missed inv N q x.0 d x.1)
      go (inr n) = inr (record {
        i = d.i;
        n = d.n;
        near_it = record { home = d.near_it.home; peer = d.near_it.peer; known = seen_else q d.i n ∙ d.near_it.known; counts = lq.unseen d.i };
        update = update_still N d.i d.n d.update;
        before = d.before;
        last = d.last;
        is = d.is;
        node = d.node;
        command = op_still d.i d.n d.last.op d.command;
        thin = thin_map (excused q) (seen_still q) refl refl d.thin;
        way = d.way;
      })

  parted_latest : Inv w → Latest parted
  parted_latest inv N before after e names none unseen =
      let old = inv.latest N before after e names none (λ x. was_unseen x e.node (unseen x)) in (
        old.0,
        record { there = record { there = old.1.there.there; unseen = unseen }; number = old.1.number; update = updating_still e.op e.update e.node old.1.number old.1.update },
      )

  pub parted_keeps : Inv w → seat.own ≡ a → Sits w.nodes parted.seen a seat.peers → Inv parted
  parted_keeps inv own sits = record {
    seats = record {
      own = λ x there. at_read same_atom atoms (λ (m : Nodes). m.own ≡ x) w.seat a seat x (λ e. own ∙ sym e) (λ n. inv.seats.own x there);
      peer = λ x q there. at_read same_atom atoms (λ (m : Nodes). list_any (same_atom q) m.peers ≡ ((list_any (same_atom q) w.nodes && not (same_atom x q)) && not (parted.seen x q))) w.seat a seat x
          (λ e. subst (λ z. list_any (same_atom q) seat.peers ≡ ((list_any (same_atom q) w.nodes && not (same_atom z q)) && not (parted.seen z q))) (sym e) (sits.peer q))
          (λ n. inv.seats.peer x q there ∙ ap (λ b. (list_any (same_atom q) w.nodes && not (same_atom x q)) && not b) (sym (seen_else x q (λ e f. n e))));
    };
    lines = parted_lines inv;
    tidy = inv.tidy;
    fitting = λ i. at_read same_atom atoms ReferencesFit w.node a (see_loss p (w.node a)).state i (λ e. loss_fits p (w.node a) (inv.fitting a)) (λ n. inv.fitting i);
    tales = λ N q lq. parted_tale inv N q lq (inv.tales N q (was_live q lq));
    once = record {
      known = λ i op. subst (λ (f : OpId → Stage). opens (f op) + answers_of i op w.answered ≤ 1) (sym (same_stages i)) (inv.once.known i op);
      unknown = λ i op late. inv.once.unknown i op (subst (λ (f : ℕ → ℕ). f op.port < op.number) (same_counts i) late);
    };
    latest = parted_latest inv;
  }
