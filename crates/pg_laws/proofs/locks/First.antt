-- What is held of a world holds of one where nothing has happened yet.
use Rattle.std.proofs.Common.{◌≡◌, ℕ, List, [], ◌∷◌, ◌++◌, None, refl, ap, sym, ◌∙◌, subst, inl, arith}
use Rattle.std.specs.List.{AllByRecursion}
use Rattle.pg_term.specs.declared.term.Term.{Term}
use Rattle.pg_term.specs.RefParts.{RefParts}
use Rattle.pg_step.specs.PgRefs.Numbered.{numbered}
use Rattle.pg_step.specs.PgLock.Locks.{is_holder}
use Rattle.pg_step.specs.declared.command.OpId.{OpId}
use Rattle.pg_step.specs.Nodes.{Node}
use Rattle.pg_step.specs.State.Use.{Fresh}
use Rattle.pg_step.specs.State.Stage.{Closed}
use Rattle.pg_laws.proofs.references.References.{about}
use Rattle.pg_laws.proofs.locks.Lines.{Fits}
use Rattle.pg_laws.proofs.locks.Lines.Line.{Quiet}
use Rattle.pg_laws.proofs.locks.Named.{World, Entry, Seated, on, of_name}
use Rattle.pg_laws.proofs.locks.Thins.{thin_none}
use Rattle.pg_laws.specs.ReferencesFit.{ReferencesFit, Fits as SoundFits}
use Rattle.pg_laws.proofs.locks.Kept.{IsOurs, answers_of, carried, talk, Inv, opens}

-- no lock is held, no reference made, no command given, nothing about a reference is on the way, and nothing applied
pub record IsFirst (w : World) : Type 0 where
  pub seats : Seated w.nodes w.seen w.seat
  pub locks : (i : Node) (N : Term) → (w.node i).locks N ≡ None
  pub uses : (i : Node) (c : ℕ) → (w.node i).uses c ≡ Fresh
  pub stages : (i : Node) (op : OpId) → (w.node i).stages op ≡ Closed
  pub own : (x : Node) → w.wire x x ≡ []
  pub plain : (x y : Node) (r : RefParts) → about r (w.wire x y) ≡ []
  pub ours : (x y : Node) → AllByRecursion (IsOurs x y) (w.wire x y)
  pub log : (p : Node) → w.log p ≡ []
  pub history : w.history ≡ []
  pub answered : w.answered ≡ []

no_entry : (before after : List Entry) (e : Entry) → [] ≡ before ++ e ∷ after → ⊥
no_entry [] after e q = cc
no_entry (x ∷ before) after e q = cc

pub first_holds : (w : World) → IsFirst w → Inv w
first_holds w first = record {
  seats = first.seats;
  lines = λ i c p m. line i c p;
  tidy = record { own = first.own; stray = λ x y h c n m. first.plain x y (numbered h c); ours = first.ours };
  fitting = fitting;
  tales = λ N p lp. inl (record {
    thin = thin_none (ap (on N) (first.log p)) (ap (of_name N) first.history);
    clear = λ i n li u. ap carried (first.plain i p (numbered i n));
  });
  once = record {
    known = λ i op.
        let p : opens ((w.node i).stages op) ≡ 0 = ap opens (first.stages i op) in
        let q : answers_of i op w.answered ≡ 0 = ap (answers_of i op) first.answered in
        omega (arith, p, q);
    unknown = λ i op lt. ap (answers_of i op) first.answered;
  };
  latest = λ N before after e names none unseen. absurd (no_entry before after e (sym (ap (of_name N) first.history) ∙ names));
}
  where
    line : (i : Node) (c : ℕ) (p : Node) → talk w i c p
    line i c p = record {
      line = Quiet;
      fits = subst (λ x. Fits x p Quiet) (sym (first.uses i c)) refl;
      out_is = first.plain i p (numbered i c);
      back_is = first.plain p i (numbered i c);
      hold_is = λ M. ap (λ o. is_holder o (numbered i c)) (first.locks p M);
    }

    fitting : (i : Node) → ReferencesFit (w.node i)
    fitting i = record {
      fresh = λ c lt. first.uses i c;
      fits = λ c. subst (λ x. SoundFits c x (w.node i).stages (w.node i).uses) (sym (first.uses i c)) tt;
      closed = λ op lt. first.stages i op;
    }
