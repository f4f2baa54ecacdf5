-- Changes that wait for their retry.
use Rattle.std.proofs.Common.{◌≡◌, ◌≢◌, ◌⊎◌, ◌<◌, ◌+◌, ◌∙◌, ◌&&◌, ◌||◌, ℕ, Bool, true, false, zero, suc, nat_eq, get_or, length, List, [], ◌∷◌, inl, inr, refl, sym, ap, subst, arith}
use Rattle.std.proofs.lemmas.Bool.{cases_eq, eq-eqb, eqb-true}
use Rattle.std.specs.List.{list_any}
use Rattle.pg_node.specs.Nodes.{held_by}
use Rattle.pg_node.specs.PgNodeState.Issued.{ports_of}
use Rattle.pg_node.specs.PgNodeState.States.{kept_by, live_of}
use Rattle.pg_node.specs.PgNodeState.Waiting.{AreWaiting}
use Rattle.pg_node.specs.PgStep.Attempts.{same_op, waits}
use Rattle.pg_node.specs.PgStep.Nodes.{Nodes}
use Rattle.pg_node.specs.PgStep.State.{State}
use Rattle.pg_node.specs.PgStep.declared.command.OpId.{OpId}
use Rattle.pg_node_process.specs.declared.retries.Courtesy.{Courtesy}
use Rattle.pg_node_run.specs.Acts.{Standing}
use Rattle.pg_process.specs.declared.process.Process.{Process}
use Rattle.pg_process.specs.Chains.{Makes}
use Rattle.pg_process.specs.Deeds.{Denied}
use Rattle.pg_process.specs.Locks.{IsDenied}
use Rattle.pg_process.specs.Settled.{AllToldDenied, IsToldDenied, OnlyDenied}
use Rattle.pg_process.specs.Situations.{Setting, Situation, setting_of, situation_of}
use Rattle.pg_process.proofs.Placed.{placed_else, placed_here}

same_itself : (op : OpId) → same_op op op ≡ true
same_itself op = ap (λ b. b && nat_eq op.number op.number) (eq-eqb op.port op.port refl) ∙ eq-eqb op.number op.number refl

or_true : (b : Bool) → (b || true) ≡ true
or_true true = refl
or_true false = refl

is_there : (ops : List OpId) (k : ℕ) (none : OpId) → k < length ops → list_any (λ other. same_op other (get_or ops k none)) ops ≡ true
is_there [] k none within = absurd (omega (arith, within))
is_there (op ∷ ops) zero none within = ap (λ b. b || list_any (λ other. same_op other op) ops) (same_itself op)
is_there (op ∷ ops) (suc k) none within = ap (λ b. same_op op (get_or ops k none) || b) (is_there ops k none (omega (arith, within))) ∙ or_true (same_op op (get_or ops k none))

-- each of those that wait does
pub each_waits : (m : Nodes) (s : State) (ops : List OpId) (k : ℕ) (none : OpId) → AreWaiting m s ops → k < length ops → waits m (s.stages (get_or ops k none)) s ≡ true
each_waits m s ops k none waiting within = sym (waiting.each (get_or ops k none)) ∙ is_there ops k none within

-- ---- those of them that are told

-- what stands where there is none
abbrev pub no_op : OpId
no_op = record { port = 0; number = 0 }

both : (b d : Bool) → (b && d) ≡ true → b ≡ true
both true d is = refl
both false d is = absurd (cc)

either : (b d : Bool) → (b || d) ≡ true → (b ≡ true) ⊎ (d ≡ true)
either true d is = inl refl
either false d is = inr is

-- where one of some changes is of the port of another
pub record FoundAt (ops : List OpId) (none : OpId) (port : ℕ) : Type 0 where
  pub place : ℕ
  pub within : place < length ops
  pub is : (get_or ops place none).port ≡ port

found_by : (x : OpId) (xs : List OpId) (op none : OpId) → (list_any (λ other. same_op other op) xs ≡ true → FoundAt xs none op.port)
    → (same_op x op ≡ true) ⊎ (list_any (λ other. same_op other op) xs ≡ true) → FoundAt (x ∷ xs) none op.port
found_by x xs op none later (inl h) = record { place = zero; within = omega arith; is = eqb-true x.port op.port (both (nat_eq x.port op.port) (nat_eq x.number op.number) h) }
found_by x xs op none later (inr h) =
    let rest = later h in
    let less = rest.within in
    record { place = suc rest.place; within = omega (arith, less); is = rest.is }

found : (ops : List OpId) (op none : OpId) → list_any (λ other. same_op other op) ops ≡ true → FoundAt ops none op.port
found [] op none is = absurd (cc)
found (x ∷ xs) op none is = found_by x xs op none (λ h. found xs op none h) (either (same_op x op) (list_any (λ other. same_op other op) xs) is)

-- nothing is told
pub denied_rests : (a b : Situation) → b ≡ a → OnlyDenied a b
denied_rests a b is = record {
  rest = is ∙ sym (ap (λ (s : Situation). record a { courtesies = s.courtesies }) is);
  kept = λ port.
      let same = ap (λ (s : Situation). s.courtesies port) is in
      same ∙ sym (ap (λ (c : Courtesy). record (a.courtesies port) { is_told = c.is_told }) same);
  lasts = λ port told. ap (λ (s : Situation). (s.courtesies port).is_told) is ∙ told;
}

pub denied_then : (a b c : Situation) → OnlyDenied a b → OnlyDenied b c → OnlyDenied a c
denied_then a b c p q = record {
  rest = q.rest ∙ ap (λ (s : Situation). record s { courtesies = c.courtesies }) p.rest;
  kept = λ port. q.kept port ∙ ap (λ (x : Courtesy). record x { is_told = (c.courtesies port).is_told }) (p.kept port);
  lasts = λ port told. q.lasts port (p.lasts port told);
}

abbrev told_now : Courtesy → Courtesy
told_now c = record c { is_told = true }

told_here : (port : ℕ) (a b : Process) → Makes (Denied port) a b → (situation_of b).courtesies port ≡ told_now ((situation_of a).courtesies port)
told_here port a b makes = ap (λ (s : Situation). s.courtesies port) makes.does.3 ∙ placed_here (situation_of a).courtesies port told_now

pub denied_made : (port : ℕ) (a b : Process) → Makes (Denied port) a b → OnlyDenied (situation_of a) (situation_of b)
denied_made port a b makes = record {
  rest = makes.does.3 ∙ sym (ap (λ (s : Situation). record (situation_of a) { courtesies = s.courtesies }) makes.does.3);
  kept = λ other. one other (cases_eq other port);
  lasts = λ other told. still other told (cases_eq other port);
}
  where
    here : (situation_of b).courtesies port ≡ told_now ((situation_of a).courtesies port)
    here = told_here port a b makes

    there : (other : ℕ) → other ≢ port → (situation_of b).courtesies other ≡ (situation_of a).courtesies other
    there other n = ap (λ (s : Situation). s.courtesies other) makes.does.3 ∙ placed_else (situation_of a).courtesies port told_now other n

    with_mark : (x y : Courtesy) → y ≡ x → y ≡ record x { is_told = y.is_told }
    with_mark x y is = is ∙ sym (ap (λ (c : Courtesy). record x { is_told = c.is_told }) is)

    with_told : (x y : Courtesy) → y ≡ told_now x → y ≡ record x { is_told = y.is_told }
    with_told x y is = is ∙ sym (ap (λ (c : Courtesy). record x { is_told = c.is_told }) is)

    one : (other : ℕ) → (other ≡ port) ⊎ (other ≢ port) → (situation_of b).courtesies other ≡ record ((situation_of a).courtesies other) { is_told = ((situation_of b).courtesies other).is_told }
    one other (inl e) = subst (λ (k : ℕ). (situation_of b).courtesies k ≡ record ((situation_of a).courtesies k) { is_told = ((situation_of b).courtesies k).is_told }) (sym e)
        (with_told ((situation_of a).courtesies port) ((situation_of b).courtesies port) here)
    one other (inr n) = with_mark ((situation_of a).courtesies other) ((situation_of b).courtesies other) (there other n)

    still : (other : ℕ) → IsToldDenied (situation_of a) other → (other ≡ port) ⊎ (other ≢ port) → IsToldDenied (situation_of b) other
    still other told (inl e) = subst (λ (k : ℕ). IsToldDenied (situation_of b) k) (sym e) (ap (λ (c : Courtesy). c.is_told) here)
    still other told (inr n) = ap (λ (c : Courtesy). c.is_told) (there other n) ∙ told

pub told_made : (port : ℕ) (a b : Process) → Makes (Denied port) a b → IsToldDenied (situation_of b) port
told_made port a b makes = ap (λ (c : Courtesy). c.is_told) (told_here port a b makes)

-- each that was denied its lock is told, where each of those that wait is
pub all_told : (a b : Process) (ops : List OpId) → setting_of b ≡ setting_of a → (situation_of b).node ≡ (situation_of a).node
    → AreWaiting (live_of (held_by a.node)) (kept_by (held_by a.node)) ops
    → ((place : ℕ) → place < length ops → (get_or ops place no_op).port < ports_of (held_by a.node) → IsToldDenied (situation_of b) (get_or ops place no_op).port) → AllToldDenied b
all_told a b ops set node waiting told port less denied =
    let here : IsDenied (setting_of a) (situation_of a) port = subst (λ (s : Setting). IsDenied s (situation_of a) port) set
    (subst (λ (n : Standing). IsDenied (setting_of b) (record (situation_of a) { node = n }) port) node denied) in
    let op : OpId = record { port = port; number = here.0 } in
    let one = found ops op no_op (waiting.each op ∙ here.1) in
    subst (λ (k : ℕ). IsToldDenied (situation_of b) k) one.is
    (told one.place one.within (subst (λ (k : ℕ). k < ports_of (held_by a.node)) (sym one.is) (subst (λ (n : ℕ). port < n) (ap (λ (s : Setting). s.ports) set) less)))

-- one more of them was told
pub told_next : (ops : List OpId) (k : ℕ) (a m b : Process) → m.node ≡ a.node → OnlyDenied (situation_of m) (situation_of b)
    → ((place : ℕ) → place < k → (get_or ops place no_op).port < ports_of (held_by a.node) → IsToldDenied (situation_of m) (get_or ops place no_op).port)
    → ((get_or ops k no_op).port < ports_of (held_by m.node) → IsToldDenied (situation_of b) (get_or ops k no_op).port)
    → (place : ℕ) → place < k + 1 → (get_or ops place no_op).port < ports_of (held_by a.node) → IsToldDenied (situation_of b) (get_or ops place no_op).port
told_next ops k a m b node only before now place less there = go (cases_eq place k)
  where
    go : (place ≡ k) ⊎ (place ≢ k) → IsToldDenied (situation_of b) (get_or ops place no_op).port
    go (inl e) = subst (λ (j : ℕ). IsToldDenied (situation_of b) (get_or ops j no_op).port) (sym e)
        (now (subst (λ n. (get_or ops k no_op).port < ports_of (held_by n)) (sym node) (subst (λ (j : ℕ). (get_or ops j no_op).port < ports_of (held_by a.node)) e there)))
    go (inr n) = only.lasts (get_or ops place no_op).port (before place (omega (arith, less, n)) there)
