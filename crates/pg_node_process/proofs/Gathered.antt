-- Assignments that are gathered for bodies, and said.
use Rattle.std.proofs.Common.{◌≡◌, ◌++◌, ◌∷◌, ◌∙◌, [], List, ℕ, Option, Some, Result, Ok, Err, refl, sym, ap, append-nil, append_assoc}
use Rattle.std.specs.Prelude.{OnOk, is_some, unwrap_or}
use Rattle.std.specs.List.{AllByRecursion, flat_map}
use Rattle.std.proofs.lemmas.List.Concat.{flat_map-append}
use Rattle.pg_term.specs.declared.term.Term.{Term, List as Listed}
use Rattle.pg_step.specs.PgMessageTypes.Parts.{items_of}
use Rattle.pg_step.proofs.PgMessageTypes.ReadBack.{items_is}
use Rattle.pg_node_process.specs.Mirrors.{Adds, AreAssignments, IsLonger, assignments}
use Rattle.pg_node_process.specs.Outputs.{IsFramed, Mirrored, Output, Says, said}

all_append : (P : Output → Type 0) (xs ys : List Output) → AllByRecursion P xs → AllByRecursion P ys → AllByRecursion P (xs ++ ys)
all_append P [] ys g h = h
all_append P (x ∷ xs) ys g h = (g.0, all_append P xs ys g.1 h)

items : {list : Term} {terms : List Term} → list ≡ Listed terms → items_of list ≡ Some terms
items {list} {terms} is = ap items_of is ∙ items_is terms

-- a list of terms is said in a body of its own
pub said_alone : (before after : List ℕ) (terms : List Term) (list : Term) {E : Type 0} (r : Result (Unit {0}) E) → OnOk r (Says before after (Mirrored list)) → list ≡ Listed terms
    → OnOk r (Adds [] before after terms [])
said_alone before after terms list (Err fault) says is = tt
said_alone before after terms list (Ok done) says is = record {
  outputs = Mirrored list ∷ [];
  alone = (ap is_some (items is), tt);
  framed = (says.framed, tt);
  gathered = says.wrote ∙ ap (λ (bytes : List ℕ). before ++ bytes) (sym (append-nil (said (Mirrored list))));
  told = ap (λ (o : Option (List Term)). (unwrap_or o [] ++ []) ++ []) (items is) ∙ ap (λ (ts : List Term). ts ++ []) (append-nil terms);
}

-- nothing is added
pub adds_none : (before : List ℕ) (waiting : List Term) → Adds [] before before waiting waiting
adds_none before waiting = record {
  outputs = [];
  alone = tt;
  framed = tt;
  gathered = sym (append-nil before);
  told = sym (append-nil waiting);
}

-- a term is put behind those that wait
pub adds_one : (said : List ℕ) (waiting : List Term) (term : Term) → Adds (term ∷ []) said said waiting (waiting ++ term ∷ [])
adds_one said waiting term = record {
  outputs = [];
  alone = tt;
  framed = tt;
  gathered = sym (append-nil said);
  told = refl;
}

-- one after another
pub adds_then : (xs ys : List Term) (said0 said1 said2 : List ℕ) (a b c : List Term) → Adds xs said0 said1 a b → Adds ys said1 said2 b c → Adds (xs ++ ys) said0 said2 a c
adds_then xs ys said0 said1 said2 a b c g h = record {
  outputs = g.outputs ++ h.outputs;
  alone = all_append AreAssignments g.outputs h.outputs g.alone h.alone;
  framed = all_append IsFramed g.outputs h.outputs g.framed h.framed;
  gathered = h.gathered ∙ ap (λ (bytes : List ℕ). bytes ++ flat_map said h.outputs) g.gathered ∙ append_assoc said0 (flat_map said g.outputs) (flat_map said h.outputs)
      ∙ ap (λ (bytes : List ℕ). said0 ++ bytes) (sym (flat_map-append said g.outputs h.outputs));
  told = ap (λ (ts : List Term). ts ++ c) (flat_map-append assignments g.outputs h.outputs) ∙ append_assoc (flat_map assignments g.outputs) (flat_map assignments h.outputs) c
      ∙ ap (λ (ts : List Term). flat_map assignments g.outputs ++ ts) h.told ∙ sym (append_assoc (flat_map assignments g.outputs) b ys)
      ∙ ap (λ (ts : List Term). ts ++ ys) g.told ∙ append_assoc a xs ys;
}

-- what was said is longer
pub longer_by : {xs : List Term} {a b : List Term} {said0 said1 : List ℕ} → Adds xs said0 said1 a b → IsLonger said0 said1
longer_by g = record { more = flat_map said g.outputs; longer = g.gathered }

pub longer_same : (said0 : List ℕ) → IsLonger said0 said0
longer_same said0 = record { more = []; longer = sym (append-nil said0) }

pub longer_then : {said0 said1 said2 : List ℕ} → IsLonger said0 said1 → IsLonger said1 said2 → IsLonger said0 said2
longer_then {said0} g h = record { more = g.more ++ h.more; longer = h.longer ∙ ap (λ (bytes : List ℕ). bytes ++ h.more) g.longer ∙ append_assoc said0 g.more h.more }
