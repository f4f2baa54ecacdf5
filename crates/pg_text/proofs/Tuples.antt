-- The text of a tuple of a word and one or two terms.
use Rattle.std.proofs.Common.{◌≡◌, List, ℕ, [], ◌∷◌, ◌++◌, ap, sym, ◌∙◌, append_assoc}
use Rattle.std.proofs.lemmas.List.{append-nil}
use Rattle.pg_term.specs.declared.pid.Pid.{Pid}
use Rattle.pg_term.specs.declared.term.Term.{Term, Tuple}
use Rattle.pg_term.specs.declared.term.Term.TheVariants.{Atom as Name, Pid as Process}
use Rattle.pg_text.specs.Writing.{term_text, atom_text, pid_text}
use Rattle.pg_text.proofs.TermsBack.{atom_is, pid_is, tuple_is}

module _ (cs : List ℕ) (name : Term) (bare : atom_text cs ≡ cs) where
  pub pair_text : term_text (Tuple (Name cs ∷ name ∷ [])) ≡ 123 ∷ ((cs ++ 44 ∷ term_text name) ++ 125 ∷ [])
  pair_text =
      tuple_is (Name cs ∷ name ∷ [])
      ∙ ap (λ (word : List ℕ). 123 ∷ (word ++ 44 ∷ (term_text name ++ [])) ++ 125 ∷ []) (atom_is cs ∙ bare)
      ∙ ap (λ (text : List ℕ). 123 ∷ (cs ++ 44 ∷ text) ++ 125 ∷ []) (append-nil (term_text name))

  pub triple_text : (pid : Pid) → term_text (Tuple (Name cs ∷ name ∷ Process pid ∷ [])) ≡ 123 ∷ (cs ++ 44 ∷ (((term_text name ++ 44 ∷ []) ++ pid_text pid) ++ 125 ∷ []))
  triple_text pid =
      tuple_is (Name cs ∷ name ∷ Process pid ∷ [])
      ∙ ap (λ (word : List ℕ). 123 ∷ (word ++ 44 ∷ (term_text name ++ 44 ∷ (term_text (Process pid) ++ []))) ++ 125 ∷ []) (atom_is cs ∙ bare)
      ∙ ap (λ (text : List ℕ). 123 ∷ (cs ++ 44 ∷ (term_text name ++ 44 ∷ text)) ++ 125 ∷ []) (append-nil (term_text (Process pid)) ∙ pid_is pid)
      ∙ ap (λ (text : List ℕ). 123 ∷ text) (append_assoc cs (44 ∷ (term_text name ++ 44 ∷ pid_text pid)) (125 ∷ []))
      ∙ ap (λ (text : List ℕ). 123 ∷ (cs ++ 44 ∷ text)) (append_assoc (term_text name) (44 ∷ pid_text pid) (125 ∷ []))
      ∙ ap (λ (text : List ℕ). 123 ∷ (cs ++ 44 ∷ text)) (sym (append_assoc (term_text name ++ 44 ∷ []) (pid_text pid) (125 ∷ []) ∙ append_assoc (term_text name) (44 ∷ []) (pid_text pid ++ 125 ∷ [])))
