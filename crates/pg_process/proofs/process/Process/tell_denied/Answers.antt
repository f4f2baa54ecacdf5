use Rattle.std.proofs.Common.{◌≡◌, ◌<◌, ◌∷◌, [], ◌∙◌, ◌++◌, ◌+◌, ℕ, Bool, true, false, not, length, append-nil, refl, sym, ap, arith}
use Rattle.pg_node_process.specs.declared.retries.Courtesy.{Courtesy}
use Rattle.pg_node_process.specs.Outputs.{Denied, said}
use Rattle.pg_node_process.specs.Retries.{at_first}
use Rattle.pg_process.specs.Situations.{situation_of}
use Rattle.pg_process.proofs.Placed.{one_seen, same_seen, seen_here}
use Rattle.pg_process.proofs.process.Process.tell_denied.Goals as goal

-- what was told before
is_told_when : (was tells : Bool) → tells ≡ not was → tells ≡ false → was ≡ true
is_told_when true tells is none = refl
is_told_when false tells is none = absurd cc

-- what was not told before
untold_when : (was tells : Bool) → tells ≡ not was → tells ≡ true → was ≡ false
untold_when true tells is did = absurd cc
untold_when false tells is did = refl

pub returns-then-not-tell-clause-none : goal.returns-then-not-tell-clause-none
returns-then-not-tell-clause-none c = λ is.
    let a = c.args.self.now in
    let within : c.args.port < length a.courtesies.items = omega (arith, c.requires.port, a.all_courtesies) in
    let was : c.index_mut.result.now.is_told ≡ true = is_told_when c.index_mut.result.now.is_told c.tell.result c.tell.ensures.value c.if-not-tell.true in (
      record {
        same = ap (λ (cs : ℕ → Courtesy). record (situation_of a) { courtesies = cs })
            (same_seen (λ c. c) at_first a.courtesies.items c.args.port c.index_mut.result.now c.tell.new.self within c.index_mut.ensures.value
            (c.tell.ensures.told ∙ ap (λ (b : Bool). record c.index_mut.result.now { is_told = b }) (sym was)));
        gathered = refl;
        journal = refl;
        setting = refl;
      },
      ap (λ (c : Courtesy). c.is_told) (seen_here (λ c. c) at_first a.courtesies.items c.args.port c.index_mut.result.now within c.index_mut.ensures.value) ∙ was,
    )

pub returns-clause-made : goal.returns-clause-made
returns-clause-made c = λ yes.
    let a = c.args.self.now in
    let within : c.args.port < length a.courtesies.items = omega (arith, c.requires.port, a.all_courtesies) in
    let untold = ap (λ (c : Courtesy). c.is_told) (seen_here (λ c. c) at_first a.courtesies.items c.args.port c.index_mut.result.now within c.index_mut.ensures.value)
    ∙ untold_when c.index_mut.result.now.is_told c.tell.result c.tell.ensures.value c.if-not-tell.false in record {
      said = Denied (c.args.port + 1) ∷ [];
      does = (
        refl,
        c.requires.denied,
        untold,
        ap (λ (cs : ℕ → Courtesy). record (situation_of a) { courtesies = cs })
            (one_seen (λ c. c) at_first a.courtesies.items c.args.port c.index_mut.result.now c.tell.new.self (λ c. record c { is_told = true }) within c.index_mut.ensures.value c.tell.ensures.told),
      );
      heard = (record { sayable = tt; fits = omega arith }, tt);
      gathered = c.in_ok-put_denied.ensures.ok ∙ ap (λ w. a.outlet.gathered.items ++ w) (sym (append-nil (said (Denied (c.args.port + 1)))));
      journal = sym (append-nil a.journal.gathered.items);
      setting = refl;
    }
