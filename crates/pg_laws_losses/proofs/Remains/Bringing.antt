-- An update of a group on a way to a node that is not lost: it is the last of the history, and the node has yet to take it.
use Rattle.std.proofs.Common.{◌≡◌, ◌≢◌, ◌⊎◌, inl, inr, ℕ, Bool, true, false, not, ◌&&◌}
use Rattle.std.proofs.Common.{List, [], ◌∷◌, ◌++◌, Option, Some, None, refl, ap, sym, ◌∙◌, subst}
use Rattle.std.specs.Prelude.{map}
use Rattle.std.specs.List.{AllByRecursion, IsDistinct}
use Rattle.std.proofs.lemmas.Bool.{ne_eqb}
use Rattle.std.proofs.lemmas.List.{append_assoc, map-append}
use Rattle.pg_term.specs.declared.term.Term.{Term}
use Rattle.pg_term.specs.RefParts.{RefParts, ref_eq}
use Rattle.pg_term.specs.Same.{same_atom}
use Rattle.pg_laws.specs.PgRefs.Numbered.{numbered}
use Rattle.pg_laws.specs.PgGroup.declared.update.Update.{Update}
use Rattle.pg_laws.specs.PgGroup.Value.{name_of}
use Rattle.pg_laws.specs.PgMessageTypes.declared.message.Message.{Message}
use Rattle.pg_laws.specs.PgMessageTypes.declared.message.Message.TheVariants.{Call, Reply, DelLock, Exchange, Down}
use Rattle.pg_laws.specs.PgMessageTypes.declared.message.Request.TheVariants.{SetLock, Change}
use Rattle.pg_laws.specs.PgStep.Machines.Losing.{Noticed, Sent, Last}
use Rattle.pg_laws.specs.PgStep.declared.command.OpId.{OpId}
use Rattle.pg_laws.specs.PgStep.Config.{Config, name_at, names_of, nodes_at}
use Rattle.pg_laws.specs.PgStep.Nodes.{Node, is_peer}
use Rattle.pg_laws.specs.PgStep.State.{State, Status, Use, live_nodes}
use Rattle.pg_laws.specs.PgStep.State.Status.{Unasked, Asked, Yes, No}
use Rattle.pg_laws.specs.PgStep.State.Use.{Fresh, Spent, Locking, Owning, Updating}
use Rattle.pg_laws.specs.Exclusive.{IsUpdateOf}
use Rattle.pg_laws.specs.History.{Entry, history}
use Rattle.pg_laws.proofs.ends.Apart.{place_below, same_place}
use Rattle.pg_laws.proofs.locks.Kept.{Due, Inv, IsOpOf, IsOurs, Tale, carried, near, talk}
use Rattle.pg_laws.proofs.locks.Lines.{Fits, FitsReply, FitsStatus, Line, outs}
use Rattle.pg_laws.proofs.locks.Lines.Line.{Quiet, Closing, Wanting, Giving, Refusing, Having, Telling, Confirming}
use Rattle.pg_laws.proofs.locks.Moves.{change_line}
use Rattle.pg_laws.proofs.locks.Named.{World, Entry as Named}
use Rattle.pg_laws.proofs.locks.Telling.{carried-append}
use Rattle.pg_laws.proofs.locks.Unique.{one_update}
use Rattle.pg_laws.proofs.places.Located.{is_named, left_out, same_names}
use Rattle.pg_laws.proofs.places.Prefixes.{group_shown}
use Rattle.pg_laws.proofs.places.Shown.{IsHere, by_name}
use Rattle.pg_laws.proofs.references.Keys.{atoms}
use Rattle.pg_laws.proofs.references.References.{about, about-append, about_here, numbered_same, refers}
use Rattle.pg_laws.proofs.steps.Ways.{all_behind}
use Rattle.pg_laws_losses.proofs.Bridge.{Left, any_filter, live_at, next_left, whole_of}
use Rattle.pg_laws_losses.proofs.Bridges.{Bridged}
use Rattle.pg_laws_losses.proofs.Lossy.{Lossy}
use Rattle.pg_laws_losses.proofs.Remains.Turning.{begun}

-- ---- lists

-- a place in two lists, one behind the other
pub in_both : {A : Type 0} (xs ys front rest : List A) (z : A) → xs ++ ys ≡ front ++ z ∷ rest
    → ((more : List A) × (xs ≡ front ++ z ∷ more)) ⊎ ((less : List A) × (ys ≡ less ++ z ∷ rest))
in_both [] ys front rest z is = inr (front, is)
in_both (x ∷ xs) ys [] rest z is = let head : x ≡ z = cc is in inl (xs, ap (λ y. y ∷ xs) head)
in_both {A} (x ∷ xs) ys (y ∷ front) rest z is =
    let head : x ≡ y = cc is in
    let tail : xs ++ ys ≡ front ++ z ∷ rest = cc is in
    go head (in_both xs ys front rest z tail)
  where
    go : x ≡ y → ((more : List A) × (xs ≡ front ++ z ∷ more)) ⊎ ((less : List A) × (ys ≡ less ++ z ∷ rest))
        → ((more : List A) × (x ∷ xs ≡ y ∷ (front ++ z ∷ more))) ⊎ ((less : List A) × (ys ≡ less ++ z ∷ rest))
    go head (inl (more, same)) = inl (more, λ k. head k ∷ same k)
    go head (inr found) = inr found

-- the last of two equal lists
pub last_is : {A : Type 0} (xs ys : List A) (x y : A) → xs ++ x ∷ [] ≡ ys ++ y ∷ [] → x ≡ y
last_is [] [] x y is = cc is
last_is [] (z ∷ []) x y is = absurd (cc is)
last_is [] (z ∷ v ∷ ys) x y is = absurd (cc is)
last_is (z ∷ []) [] x y is = absurd (cc is)
last_is (z ∷ v ∷ xs) [] x y is = absurd (cc is)
last_is (z ∷ xs) (v ∷ ys) x y is = let tail : xs ++ x ∷ [] ≡ ys ++ y ∷ [] = cc is in last_is xs ys x y tail

-- packets that were sent, among those on a way
pub at_sent : (xs : List Message) (front rest : List (Noticed Message)) (x : Message) → map Sent xs ≡ front ++ Sent x ∷ rest → (before after : List Message) × (xs ≡ before ++ x ∷ after)
at_sent [] [] rest x is = absurd (cc is)
at_sent [] (y ∷ front) rest x is = absurd (cc is)
at_sent (z ∷ xs) [] rest x is = let head : z ≡ x = cc is in ([], xs, ap (λ y. y ∷ xs) head)
at_sent (z ∷ xs) (y ∷ front) rest x is =
    let tail : map Sent xs ≡ front ++ Sent x ∷ rest = cc is in
    let more = at_sent xs front rest x tail in
    (z ∷ more.0, more.1, ap (λ ys. z ∷ ys) more.2)

first_of_two : (xs ys : List Update) (u v : Update) → xs ++ u ∷ ys ≡ v ∷ [] → u ≡ v
first_of_two [] ys u v is = cc is
first_of_two (x ∷ []) ys u v is = absurd (cc is)
first_of_two (x ∷ y ∷ xs) ys u v is = absurd (cc is)

some_carried : (xs ys : List Update) (u : Update) → xs ++ u ∷ ys ≡ [] → ⊥
some_carried [] ys u is = absurd (cc is)
some_carried (x ∷ xs) ys u is = absurd (cc is)

-- an update that was sent is the one that began
pub sent_is_begun : (xs : List Message) (before after : List Message) (r : RefParts) (u : Update) (o : Option (OpId × Update)) → xs ≡ before ++ Call r (Change u) ∷ after → carried xs ≡ begun o
    → (op : OpId) × (o ≡ Some (op, u))
sent_is_begun xs before after r u None is all = absurd (some_carried (carried before) (carried after) u (sym (ap carried is ∙ carried-append before (Call r (Change u) ∷ after)) ∙ all))
sent_is_begun xs before after r u (Some (op, v)) is all =
    let same : u ≡ v = first_of_two (carried before) (carried after) u v (sym (ap carried is ∙ carried-append before (Call r (Change u) ∷ after)) ∙ all) in
    (op, λ k. Some (op, sym same k))

-- and one that began was sent
pub carries_at : (xs : List Message) (u : Update) (us : List Update) → carried xs ≡ u ∷ us → (before after : List Message) × (r : RefParts) × (xs ≡ before ++ Call r (Change u) ∷ after)
carries_at [] u us is = absurd (cc is)
carries_at (Call r (Change v) ∷ xs) u us is = let same : v ≡ u = cc is in ([], xs, r, ap (λ z. Call r (Change z) ∷ xs) same)
carries_at (Call r (SetLock N) ∷ xs) u us is = let more = carries_at xs u us is in (Call r (SetLock N) ∷ more.0, more.1, more.2, ap (λ ys. Call r (SetLock N) ∷ ys) more.3)
carries_at (Reply r said ∷ xs) u us is = let more = carries_at xs u us is in (Reply r said ∷ more.0, more.1, more.2, ap (λ ys. Reply r said ∷ ys) more.3)
carries_at (DelLock N r ∷ xs) u us is = let more = carries_at xs u us is in (DelLock N r ∷ more.0, more.1, more.2, ap (λ ys. DelLock N r ∷ ys) more.3)
carries_at (Exchange n groups ∷ xs) u us is = let more = carries_at xs u us is in (Exchange n groups ∷ more.0, more.1, more.2, ap (λ ys. Exchange n groups ∷ ys) more.3)
carries_at (Down pid ∷ xs) u us is = let more = carries_at xs u us is in (Down pid ∷ more.0, more.1, more.2, ap (λ ys. Down pid ∷ ys) more.3)

-- ---- a way with an update

pub record Brings (name : Term) (xs : List (Noticed Message)) : Type 0 where
  pub front : List (Noticed Message)
  pub rest : List (Noticed Message)
  pub reference : RefParts
  pub update : Update
  pub is : xs ≡ front ++ Sent (Call reference (Change update)) ∷ rest
  pub named : name_of update ≡ name

pub brings_more : (name : Term) (xs ys : List (Noticed Message)) → Brings name xs → Brings name (xs ++ ys)
brings_more name xs ys b = record {
  front = b.front;
  rest = b.rest ++ ys;
  reference = b.reference;
  update = b.update;
  is = ap (λ zs. zs ++ ys) b.is ∙ append_assoc b.front (Sent (Call b.reference (Change b.update)) ∷ b.rest) ys;
  named = b.named;
}

pub brings_behind : (name : Term) (x : Noticed Message) (xs : List (Noticed Message)) → Brings name xs → Brings name (x ∷ xs)
brings_behind name x xs b = record { front = x ∷ b.front; rest = b.rest; reference = b.reference; update = b.update; is = ap (λ zs. x ∷ zs) b.is; named = b.named }

map_sent_at : (before after : List Message) (x : Message) → map Sent (before ++ x ∷ after) ≡ map Sent before ++ Sent x ∷ map Sent after
map_sent_at before after x = map-append Sent before (x ∷ after)

pub brings_sent : (name : Term) (old : List (Noticed Message)) (xs : List Message) (u : Update) → carried xs ≡ u ∷ [] → name_of u ≡ name → Brings name (old ++ map Sent xs)
brings_sent name old xs u all named =
    let c = carries_at xs u [] all in
    record {
      front = old ++ map Sent c.0;
      rest = map Sent c.1;
      reference = c.2;
      update = u;
      is = ap (λ ys. old ++ map Sent ys) c.3 ∙ (ap (λ ys. old ++ ys) (map_sent_at c.0 c.1 (Call c.2 (Change u))) ∙ sym (append_assoc old (map Sent c.0) (Sent (Call c.2 (Change u)) ∷ map Sent c.1)));
      named = named;
    }

-- what is brought behind more packets was brought before, or it began
pub brought : (name : Term) (old : List (Noticed Message)) (xs : List Message) (o : Option (OpId × Update)) → carried xs ≡ begun o → Brings name (old ++ map Sent xs)
    → Brings name old ⊎ ((op : OpId) × (u : Update) × (o ≡ Some (op, u)) × (name_of u ≡ name))
brought name old xs o all b = go (in_both old (map Sent xs) b.front b.rest (Sent (Call b.reference (Change b.update))) b.is)
  where
    go : ((more : List (Noticed Message)) × (old ≡ b.front ++ Sent (Call b.reference (Change b.update)) ∷ more)) ⊎ ((less : List (Noticed Message)) × (map Sent xs ≡ less ++ Sent (Call b.reference (Change b.update)) ∷ b.rest))
        → Brings name old ⊎ ((op : OpId) × (u : Update) × (o ≡ Some (op, u)) × (name_of u ≡ name))
    go (inl (more, is)) = inl (record { front = b.front; rest = more; reference = b.reference; update = b.update; is = is; named = b.named })
    go (inr (less, is)) =
        let c = at_sent xs less b.rest (Call b.reference (Change b.update)) is in
        let d = sent_is_begun xs c.0 c.1 b.reference b.update o c.2 all in
        inr (d.0, b.update, d.1, b.named)

-- what is left of a way, at a packet of it
pub split_left : (b : Bool) (front rest : List (Noticed Message)) (x : Message) (all : List Message) → Left b (front ++ Sent x ∷ rest) all → (before more : List Message) × (all ≡ before ++ x ∷ more) × Left b rest more
split_left b [] rest x all l = let n = next_left b x rest all l in ([], n.0, n.1, n.2)
split_left b (Sent y ∷ front) rest x all l =
    let n = next_left b y (front ++ Sent x ∷ rest) all l in
    let m = split_left b front rest x n.0 n.2 in
    (y ∷ m.0, m.1, n.1 ∙ ap (λ ys. y ∷ ys) m.2, m.3)
split_left b (Last ∷ front) rest x all l = absurd (no_last b l)
  where
    not_empty : (ys : List (Noticed Message)) → ys ++ Sent x ∷ rest ≡ [] → ⊥
    not_empty [] is = absurd (cc is)
    not_empty (y ∷ ys) is = absurd (cc is)

    no_last : (b : Bool) → Left b (Last ∷ (front ++ Sent x ∷ rest)) all → ⊥
    no_last false e = none all e
      where
        none : (ys : List Message) → ◌≡◌ {A = List (Noticed Message)} (Last ∷ (front ++ Sent x ∷ rest)) (map Sent ys) → ⊥
        none [] is = absurd (cc is)
        none (y ∷ ys) is = absurd (cc is)
    no_last true ([], back, e, f) = let tail : front ++ Sent x ∷ rest ≡ [] = cc e in not_empty front tail
    no_last true (y ∷ ys, back, e, f) = absurd (cc e)

-- ---- a way by names

one_more : (a : Message) (f : Message) (fs rest : List Message) (z : Message) → f ∷ (fs ++ z ∷ rest) ≡ a ∷ [] → ⊥
one_more a f fs rest z is =
    let tail : fs ++ z ∷ rest ≡ [] = cc is in
    go fs tail
  where
    go : (gs : List Message) → gs ++ z ∷ rest ≡ [] → ⊥
    go [] e = absurd (cc e)
    go (g ∷ gs) e = absurd (cc e)

-- two packets about one reference are not on one way
two_out : (r : RefParts) (f : Message) (fs rest : List Message) (z : Message) (l : Line) → f ∷ (fs ++ z ∷ rest) ≡ outs r l → ⊥
two_out r f fs rest z Quiet is = absurd (cc is)
two_out r f fs rest z (Closing N) is = one_more (DelLock N r) f fs rest z is
two_out r f fs rest z (Wanting N) is = one_more (Call r (SetLock N)) f fs rest z is
two_out r f fs rest z (Giving N) is = absurd (cc is)
two_out r f fs rest z Refusing is = absurd (cc is)
two_out r f fs rest z (Having N) is = absurd (cc is)
two_out r f fs rest z (Telling u) is = one_more (Call r (Change u)) f fs rest z is
two_out r f fs rest z Confirming is = absurd (cc is)

one_out : (r : RefParts) (fs rest : List Message) (u : Update) (l : Line) → fs ++ Call r (Change u) ∷ rest ≡ outs r l → (fs ≡ []) × (l ≡ Telling u) × (rest ≡ [])
one_out r [] rest u l is = let c = change_line r u rest l is in (refl, c.0, c.1)
one_out r (f ∷ fs) rest u l is = absurd (two_out r f fs rest (Call r (Change u)) l is)

no_status : (M : Term) (u : Update) (v : Status) → FitsStatus M v (Telling u) → ⊥
no_status M u Asked f = f
no_status M u Unasked f = cc f
no_status M u Yes f = cc f
no_status M u No f = f

told_reply : (v u : Update) (b : Bool) → FitsReply v b (Telling u) → u ≡ v
told_reply v u true f = absurd (cc f)
told_reply v u false f = f

told_use : (how : Use) (p : Node) (u : Update) → Fits how p (Telling u) → IsUpdateOf (name_of u) how
told_use Fresh p u f = absurd (cc f)
told_use Spent p u f = absurd f
told_use (Locking op v lead st) p u f = absurd (no_status (name_of v) u (st p) f)
told_use (Owning M c) p u f = absurd (cc f)
told_use (Updating op v c rep) p u f = ap name_of (sym (told_reply v u (rep p) f))

module _ (w : World) (inv : Inv w) (x y : Node) (meets : near w x y) (name : Term) where
  record OnWay (front rest : List Message) (u : Update) : Type 0 where
    number : ℕ
    used : IsUpdateOf name ((w.node x).uses number)
    only : carried (about (numbered x number) (w.wire x y)) ≡ u ∷ []
    before : about (numbered x number) front ≡ []

  on_way : (front rest : List Message) (r : RefParts) (u : Update) → w.wire x y ≡ front ++ Call r (Change u) ∷ rest → name_of u ≡ name
      → (o : OnWay front rest u) × (r ≡ numbered x o.number)
  on_way front rest r u is named = go r (all_behind (IsOurs x y) front (Call r (Change u) ∷ rest) (subst (AllByRecursion (IsOurs x y)) is (inv.tidy.ours x y))).0 is
    where
      go : (s : RefParts) → IsOurs x y (Call s (Change u)) → w.wire x y ≡ front ++ Call s (Change u) ∷ rest → (o : OnWay front rest u) × (s ≡ numbered x o.number)
      go s (c, same) at =
          let place : w.wire x y ≡ front ++ Call (numbered x c) (Change u) ∷ rest = at ∙ ap (λ z. front ++ Call z (Change u) ∷ rest) same in
          let parts : about (numbered x c) (w.wire x y) ≡ about (numbered x c) front ++ Call (numbered x c) (Change u) ∷ about (numbered x c) rest =
          ap (about (numbered x c)) place ∙ (about-append (numbered x c) front (Call (numbered x c) (Change u) ∷ rest)
          ∙ ap (λ zs. about (numbered x c) front ++ zs) (about_here (numbered x c) (Call (numbered x c) (Change u)) rest (numbered_same x c))) in
          let l : talk w x c y = inv.lines x c y meets in
          let one = one_out (numbered x c) (about (numbered x c) front) (about (numbered x c) rest) u l.line (sym parts ∙ l.out_is) in (
            record {
              number = c;
              used = subst (λ N. IsUpdateOf N ((w.node x).uses c)) named (told_use ((w.node x).uses c) y u (subst (Fits ((w.node x).uses c) y) one.1 l.fits));
              only = ap carried (parts ∙ (λ k. one.0 k ++ Call (numbered x c) (Change u) ∷ one.2 k));
              before = one.0;
            },
            same,
          )

  -- no second one is behind it
  not_two : (front rest middle behind : List Message) (r s : RefParts) (u v : Update) → w.wire x y ≡ front ++ Call r (Change u) ∷ rest → name_of u ≡ name
      → rest ≡ middle ++ Call s (Change v) ∷ behind → name_of v ≡ name → ⊥
  not_two front rest middle behind r s u v is named at also =
      let a = on_way front rest r u is named in
      let place : w.wire x y ≡ (front ++ Call r (Change u) ∷ middle) ++ Call s (Change v) ∷ behind =
      is ∙ (ap (λ zs. front ++ Call r (Change u) ∷ zs) at ∙ sym (append_assoc front (Call r (Change u) ∷ middle) (Call s (Change v) ∷ behind))) in
      let b = on_way (front ++ Call r (Change u) ∷ middle) behind s v place also in
      let one : a.0.number ≡ b.0.number = (one_update w inv x a.0.number x b.0.number name y meets meets a.0.used b.0.used).1 in
      let same : r ≡ numbered x b.0.number = a.1 ∙ ap (numbered x) one in
      let it_refers : refers (numbered x b.0.number) (Call r (Change u)) ≡ true = ap (λ z. ref_eq z (numbered x b.0.number)) same ∙ numbered_same x b.0.number in
      let parts : about (numbered x b.0.number) (front ++ Call r (Change u) ∷ middle) ≡ about (numbered x b.0.number) front ++ Call r (Change u) ∷ about (numbered x b.0.number) middle =
      about-append (numbered x b.0.number) front (Call r (Change u) ∷ middle)
      ∙ ap (λ zs. about (numbered x b.0.number) front ++ zs) (about_here (numbered x b.0.number) (Call r (Change u)) middle it_refers) in
      not_empty (about (numbered x b.0.number) front) (Call r (Change u)) (about (numbered x b.0.number) middle) (sym parts ∙ b.0.before)
    where
      not_empty : (xs : List Message) (z : Message) (zs : List Message) → xs ++ z ∷ zs ≡ [] → ⊥
      not_empty [] z zs e = absurd (cc e)
      not_empty (f ∷ xs) z zs e = absurd (cc e)

  -- it is the one that node y has yet to take
  record Owed (u : Update) : Type 0 where
    due : Due w name y
    node : due.i ≡ x
    update : due.last.update ≡ u

  is_owed : (front rest : List Message) (r : RefParts) (u : Update) → w.wire x y ≡ front ++ Call r (Change u) ∷ rest → name_of u ≡ name → Tale w name y → Owed u
  is_owed front rest r u is named (inl f) =
      let o = on_way front rest r u is named in
      absurd (cc (sym o.0.only ∙ f.clear x o.0.number meets o.0.used))
  is_owed front rest r u is named (inr d) =
      let o = on_way front rest r u is named in
      let one = one_update w inv d.i d.n x o.0.number name y d.near_it meets d.update o.0.used in
      let way : carried (about (numbered d.i d.n) (w.wire d.i y)) ≡ u ∷ [] = (λ k. carried (about (numbered (one.0 k) (one.1 k)) (w.wire (one.0 k) y))) ∙ o.0.only in
      record { due = d; node = one.0; update = first_of_two [] [] d.last.update u (sym d.way ∙ way) }

-- ---- a world by places

module _ (config : Config) (apart : IsDistinct same_atom (names_of config)) (name : Term) (v : Lossy) (b : Bridged config apart v) where
  abbrev W : World
  W = b.has.world

  -- from x to y
  module _ (x y : ℕ) (hx : IsHere config x) (hy : IsHere config y) (other : x ≢ y) (meets : near b.has.world (name_at config x) (name_at config y)) (known : (v.world.node y).lost (name_at config x) ≡ false) where
    named_way : b.has.world.wire (name_at config x) (name_at config y) ≡ b.has.ways x y
    named_way = b.has.shows.wire x y hx hy

    whole_way : (front rest : List (Noticed Message)) (z : Message) → v.world.wire x y ≡ front ++ Sent z ∷ rest
        → (before more : List Message) × (b.has.world.wire (name_at config x) (name_at config y) ≡ before ++ z ∷ more) × Left (v.gone x) rest more
    whole_way front rest z is =
        let s = split_left (v.gone x) front rest z (b.has.ways x y) (subst (λ ws. Left (v.gone x) ws (b.has.ways x y)) is (b.has.cut x y hx hy other known)) in
        (s.0, s.1, named_way ∙ s.2, s.3)

    -- what is brought is under way
    pub told_under : Brings name (v.world.wire x y) → (n : ℕ) × IsUpdateOf name ((v.world.node x).uses n)
    told_under g =
        let at = whole_way g.front g.rest (Call g.reference (Change g.update)) g.is in
        let o = on_way b.has.world b.has.inv (name_at config x) (name_at config y) meets name at.0 at.1 g.reference g.update at.2 g.named in
        (o.0.number, subst (λ (s : State). IsUpdateOf name (s.uses o.0.number)) (b.has.shows.node x hx) o.0.used)

    pub once_brought : (front rest : List (Noticed Message)) (r : RefParts) (u : Update) → v.world.wire x y ≡ front ++ Sent (Call r (Change u)) ∷ rest → name_of u ≡ name → Brings name rest → ⊥
    once_brought front rest r u is named g =
        let at = whole_way front rest (Call r (Change u)) is in
        let also = split_left (v.gone x) g.front g.rest (Call g.reference (Change g.update)) at.1 (subst (λ ws. Left (v.gone x) ws at.1) g.is at.3) in
        not_two b.has.world b.has.inv (name_at config x) (name_at config y) meets name at.0 at.1 also.0 also.1 r g.reference u g.update at.2 named also.2 g.named

    -- to a node that is not lost the last entry is brought, by its node
    pub record Bringing (e : Entry) (u : Update) : Type 0 where
      pub node : e.node ≡ x
      pub update : e.update ≡ u
      pub number : ℕ
      pub used : IsUpdateOf name ((v.world.node x).uses number)
      pub op : IsOpOf ((v.world.node x).uses number) e.op

    pub bringing : (g : Brings name (v.world.wire x y)) (es : List Entry) (e : Entry) → IsHere config e.node → history name v.world.reported ≡ es ++ e ∷ [] → v.gone y ≡ false → Bringing e g.update
    bringing g es e there is lives =
        let at = whole_way g.front g.rest (Call g.reference (Change g.update)) g.is in
        let o = is_owed b.has.world b.has.inv (name_at config x) (name_at config y) meets name at.0 at.1 g.reference g.update at.2 g.named
        (b.has.inv.tales name (name_at config y) (live_at config apart v b.has y hy lives)) in
        let group : o.due.before ++ o.due.last ∷ [] ≡ map (by_name config) es ++ by_name config e ∷ [] =
        sym o.due.is ∙ (group_shown config apart (whole_of config apart v b.has.ways) b.has.world b.has.shows b.places name ∙ (ap (map (by_name config)) is ∙ map-append (by_name config) es (e ∷ []))) in
        let last : o.due.last ≡ by_name config e = last_is o.due.before (map (by_name config) es) o.due.last (by_name config e) group in
        let names : name_at config e.node ≡ name_at config x = ap (λ (z : Named). z.node) (sym last) ∙ (o.due.node ∙ o.node) in
        record {
          node = same_place config apart e.node x there hx (ap (same_atom (name_at config e.node)) (sym names) ∙ atoms.refl (name_at config e.node));
          update = ap (λ (z : Named). z.update) (sym last) ∙ o.update;
          number = o.due.n;
          used = subst (λ (s : State). IsUpdateOf name (s.uses o.due.n)) (b.has.shows.node x hx) (subst (λ z. IsUpdateOf name ((b.has.world.node z).uses o.due.n)) o.node o.due.update);
          op = subst (λ (s : State). IsOpOf (s.uses o.due.n) e.op) (b.has.shows.node x hx) (subst (λ z. IsOpOf ((b.has.world.node z).uses o.due.n) e.op) o.node
              (subst (λ (z : Named). IsOpOf ((b.has.world.node o.due.i).uses o.due.n) z.op) last o.due.command));
        }

  -- near one node one update of the group is under way
  pub one_under : (x y z n k : ℕ) → IsHere config x → IsHere config y → IsHere config z → near b.has.world (name_at config x) (name_at config z) → near b.has.world (name_at config y) (name_at config z)
      → IsUpdateOf name ((v.world.node x).uses n) → IsUpdateOf name ((v.world.node y).uses k) → x ≡ y
  one_under x y z n k hx hy hz meets also used other =
      let one = one_update b.has.world b.has.inv (name_at config x) n (name_at config y) k name (name_at config z) meets also
      (subst (λ (s : State). IsUpdateOf name (s.uses n)) (sym (b.has.shows.node x hx)) used) (subst (λ (s : State). IsUpdateOf name (s.uses k)) (sym (b.has.shows.node y hy)) other) in
      same_place config apart x y hx hy (ap (same_atom (name_at config x)) (sym one.0) ∙ atoms.refl (name_at config x))

  -- a node whose loss was not seen is a peer that counts
  pub counts_as_peer : (x y : ℕ) → IsHere config x → IsHere config y → x ≢ y → (v.world.node x).lost (name_at config y) ≡ false → is_peer (live_nodes (nodes_at config x) (v.world.node x)) (name_at config y) ≡ true
  counts_as_peer x y hx hy other known =
      any_filter (λ z. not ((v.world.node x).lost z)) (name_at config y) (nodes_at config x).peers
      ∙ (ap (λ c. c && not ((v.world.node x).lost (name_at config y))) (left_out (names_of config) x (name_at config y) (place_below config x hx) apart)
      ∙ (λ k. (is_named (names_of config) y (place_below config y hy) k && not ((same_names config apart x y hx hy ∙ ne_eqb x y other) k)) && not (known k)))
