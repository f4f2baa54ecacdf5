-- Ports that are the same one by one are the same.
use Rattle.std.proofs.Common.{◌≡◌, ◌<◌, ◌≤◌, ◌+◌, ◌∙◌, ℕ, zero, suc, List, []}
use Rattle.std.proofs.Common.{◌∷◌, get_or, length, refl, sym, ap, subst, arith}
use Rattle.std.proofs.Math.Path.{fun_ext}
use Rattle.std.specs.List.{AllZip}
use Rattle.pg_node_opens.specs.PgStep.declared.answer.Answer.{Answer}
use Rattle.pg_node_ports.specs.declared.port.Port.{Port}
use Rattle.pg_node_ports.specs.Ports.{port_commands, answers_in, forgotten_in}
use Rattle.pg_node_ports.specs.Same.{AreSamePorts, IsSamePort}
use Rattle.pg_node_ports.proofs.Answered.{count_there, answers_there, at_place, forgotten_here}

-- the first ports of both are the same
pub record AgreeBelow (ports others : List Port) (n : ℕ) : Type 0 where
  pub counts : (k : ℕ) → k < n → port_commands ports k ≡ port_commands others k
  pub answers : (k : ℕ) → k < n → answers_in ports k ≡ answers_in others k

pub none_below : (ports others : List Port) → AgreeBelow ports others 0
none_below ports others = record { counts = λ k l. absurd (omega (arith, l)); answers = λ k l. absurd (omega (arith, l)) }

-- what holds below a number and at it holds below the next
one_more : {A : Type 0} (f g : ℕ → A) (n : ℕ) → ((k : ℕ) → k < n → f k ≡ g k) → f n ≡ g n → (k : ℕ) → k < n + 1 → f k ≡ g k
one_more f g zero below here zero l = here
one_more f g zero below here (suc k) l = absurd (omega (arith, l))
one_more f g (suc n) below here zero l = below zero (omega arith)
one_more f g (suc n) below here (suc k) l = one_more (λ j. f (suc j)) (λ j. g (suc j)) n (λ j lj. below (suc j) (omega (arith, lj))) here k (omega (arith, l))

-- two ports at one place
module _ (ports others : List Port) (k : ℕ) (p q : Port) (same : length ports ≡ length others) (within : k < length ports) (here : p ≡ get_or ports k p) (there : q ≡ get_or others k q) where
  within_others : k < length others
  within_others = omega (arith, same, within)

  pub more_below : (p.count ≡ q.count) × (p.answers.items ≡ q.answers.items) → AgreeBelow ports others k → AgreeBelow ports others (k + 1)
  more_below h below = record {
    counts = one_more (port_commands ports) (port_commands others) k below.counts (count_there ports k k p p refl within here ∙ (h.0 ∙ sym (count_there others k k q q refl within_others there)));
    answers = one_more (answers_in ports) (answers_in others) k below.answers (answers_there ports k k p p refl within here ∙ (h.1 ∙ sym (answers_there others k k q q refl within_others there)));
  }

  pub one_same : (port_commands ports ≡ port_commands others) × (answers_in ports ≡ answers_in others) → (p.count ≡ q.count) × (p.answers.items ≡ q.answers.items)
  one_same h = (
    sym (count_there ports k k p p refl within here) ∙ (ap (λ (f : ℕ → ℕ). f k) h.0 ∙ count_there others k k q q refl within_others there),
    sym (answers_there ports k k p p refl within here) ∙ (ap (λ (f : ℕ → List Answer). f k) h.1 ∙ answers_there others k k q q refl within_others there),
  )

each_count : (ports others : List Port) (n : ℕ) → length ports ≡ length others → length ports ≤ n → ((k : ℕ) → k < n → port_commands ports k ≡ port_commands others k) → (k : ℕ) → port_commands ports k ≡ port_commands others k
each_count [] [] n same l below k = refl
each_count [] (q ∷ others) n same l below k = absurd (omega (arith, same))
each_count (p ∷ ports) [] n same l below k = absurd (omega (arith, same))
each_count (p ∷ ports) (q ∷ others) n same l below zero = below zero (omega (arith, l))
each_count (p ∷ ports) (q ∷ others) n same l below (suc k) = each_count ports others (length ports) (omega (arith, same)) (omega arith) (λ j lj. below (suc j) (omega (arith, l, lj))) k

each_answers : (ports others : List Port) (n : ℕ) → length ports ≡ length others → length ports ≤ n → ((k : ℕ) → k < n → answers_in ports k ≡ answers_in others k) → (k : ℕ) → answers_in ports k ≡ answers_in others k
each_answers [] [] n same l below k = refl
each_answers [] (q ∷ others) n same l below k = absurd (omega (arith, same))
each_answers (p ∷ ports) [] n same l below k = absurd (omega (arith, same))
each_answers (p ∷ ports) (q ∷ others) n same l below zero = below zero (omega (arith, l))
each_answers (p ∷ ports) (q ∷ others) n same l below (suc k) = each_answers ports others (length ports) (omega (arith, same)) (omega arith) (λ j lj. below (suc j) (omega (arith, l, lj))) k

pub all_below : (ports others : List Port) (n : ℕ) → length ports ≡ length others → length ports ≤ n → AgreeBelow ports others n
    → (port_commands ports ≡ port_commands others) × (answers_in ports ≡ answers_in others)
all_below ports others n same l below = (fun_ext (each_count ports others n same l below.counts), fun_ext (each_answers ports others n same l below.answers))

-- ---- how many each has forgotten

module _ (ports others : List Port) (k : ℕ) (p q : Port) (same : length ports ≡ length others) (within : k < length ports) (here : p ≡ get_or ports k p) (there : q ≡ get_or others k q) where
  mine : forgotten_in ports k ≡ p.forgotten
  mine = forgotten_here ports k p (at_place ports k p within here)

  theirs : forgotten_in others k ≡ q.forgotten
  theirs = forgotten_here others k q (at_place others k q (omega (arith, same, within)) there)

  pub forgotten_below : p.forgotten ≡ q.forgotten → ((j : ℕ) → j < k → forgotten_in ports j ≡ forgotten_in others j) → (j : ℕ) → j < k + 1 → forgotten_in ports j ≡ forgotten_in others j
  forgotten_below h below = one_more (forgotten_in ports) (forgotten_in others) k below (mine ∙ (h ∙ sym theirs))

  pub one_forgotten : forgotten_in ports ≡ forgotten_in others → p.forgotten ≡ q.forgotten
  one_forgotten h = sym mine ∙ (ap (λ (f : ℕ → ℕ). f k) h ∙ theirs)

each_forgotten : (ports others : List Port) (n : ℕ) → length ports ≡ length others → length ports ≤ n → ((k : ℕ) → k < n → forgotten_in ports k ≡ forgotten_in others k) → (k : ℕ) → forgotten_in ports k ≡ forgotten_in others k
each_forgotten [] [] n same l below k = refl
each_forgotten [] (q ∷ others) n same l below k = absurd (omega (arith, same))
each_forgotten (p ∷ ports) [] n same l below k = absurd (omega (arith, same))
each_forgotten (p ∷ ports) (q ∷ others) n same l below zero = below zero (omega (arith, l))
each_forgotten (p ∷ ports) (q ∷ others) n same l below (suc k) = each_forgotten ports others (length ports) (omega (arith, same)) (omega arith) (λ j lj. below (suc j) (omega (arith, l, lj))) k

pub all_forgotten : (ports others : List Port) (n : ℕ) → length ports ≡ length others → length ports ≤ n → ((k : ℕ) → k < n → forgotten_in ports k ≡ forgotten_in others k) → forgotten_in ports ≡ forgotten_in others
all_forgotten ports others n same l below = fun_ext (each_forgotten ports others n same l below)

-- the same ports by other names
pub ports_along : (ports ports' others others' : List Port) → ports ≡ ports' → others ≡ others' → AreSamePorts ports others → AreSamePorts ports' others'
ports_along ports ports' others others' e f h = subst (λ (qs : List Port). AreSamePorts ports' qs) f (subst (λ (ps : List Port). AreSamePorts ps others) e h)

-- ---- ports that were copied one by one

same_lengths : (ps qs : List Port) → AllZip IsSamePort ps qs → length ps ≡ length qs
same_lengths [] [] z = refl
same_lengths [] (q ∷ qs) z = absurd z
same_lengths (p ∷ ps) [] z = absurd z
same_lengths (p ∷ ps) (q ∷ qs) z = ap suc (same_lengths ps qs z.1)

same_counts : (ps qs : List Port) → AllZip IsSamePort ps qs → (k : ℕ) → port_commands ps k ≡ port_commands qs k
same_counts [] [] z k = refl
same_counts [] (q ∷ qs) z k = absurd z
same_counts (p ∷ ps) [] z k = absurd z
same_counts (p ∷ ps) (q ∷ qs) z zero = sym z.0.count
same_counts (p ∷ ps) (q ∷ qs) z (suc k) = same_counts ps qs z.1 k

same_answers : (ps qs : List Port) → AllZip IsSamePort ps qs → (k : ℕ) → answers_in ps k ≡ answers_in qs k
same_answers [] [] z k = refl
same_answers [] (q ∷ qs) z k = absurd z
same_answers (p ∷ ps) [] z k = absurd z
same_answers (p ∷ ps) (q ∷ qs) z zero = sym z.0.answers
same_answers (p ∷ ps) (q ∷ qs) z (suc k) = same_answers ps qs z.1 k

pub same_of_copies : (ports copies : List Port) → AllZip IsSamePort ports copies → AreSamePorts ports copies
same_of_copies ports copies zip = record {
  count = same_lengths ports copies zip;
  counts = fun_ext (same_counts ports copies zip);
  answers = fun_ext (same_answers ports copies zip);
}

-- they have forgotten as many answers
pub forgotten_by_copies : (ps qs : List Port) → AllZip IsSamePort ps qs → forgotten_in qs ≡ forgotten_in ps
forgotten_by_copies ps qs zip = fun_ext (each ps qs zip)
  where
    each : (ps qs : List Port) → AllZip IsSamePort ps qs → (k : ℕ) → forgotten_in qs k ≡ forgotten_in ps k
    each [] [] z k = refl
    each [] (q ∷ qs) z k = absurd z
    each (p ∷ ps) [] z k = absurd z
    each (p ∷ ps) (q ∷ qs) z zero = z.0.forgotten
    each (p ∷ ps) (q ∷ qs) z (suc k) = each ps qs z.1 k
