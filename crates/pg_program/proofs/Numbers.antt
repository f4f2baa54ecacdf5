-- The numbers that words give.
use Rattle.std.proofs.Common.{◌≡◌, ℕ, List, Option, Some, None, Result, refl, sym, ap, ◌∙◌, inl, inr}
use Rattle.std.specs.Prelude.{unwrap_or}
use Rattle.std.specs.Str.Parse.{ParsesUnsigned}
use Rattle.clap.specs.Words.{ReadsOne, Row, Text}
use Rattle.pg_talk.specs.declared.conversation.Conversation.{Conversation}
use Rattle.pg_program.specs.CommandLine.{AsksTalk, GivesNumber, IsThreads}
use Rattle.pg_program.specs.declared.words.Talk.{Talk}

-- a number that was read of a text is that of the text
pub gives_number : {E : Type 0} (bits default : ℕ) (P Q : List ℕ → Result ℕ E → Type 0) (text : Option Text) (read : Option ℕ) (number : ℕ)
    → (text ≡ None → read ≡ None) → ((t : List ℕ) → text ≡ Some t → ReadsOne (λ t r. ParsesUnsigned bits 10 t r × P t r × Q t r) t read)
    → number ≡ unwrap_or read default → GivesNumber bits default text number
gives_number bits default P Q None read number none value e = e ∙ ap (λ (o : Option ℕ). unwrap_or o default) (none refl)
gives_number bits default P Q (Some text) None number none value e = inr ((value text refl).1.0, e)
gives_number bits default P Q (Some text) (Some n) number none value e = let given = (value text refl).0 in inl (given.0, e ∙ given.1)

-- there is one such number
pub same_number : (bits default : ℕ) (text : Option Text) (n m : ℕ) → GivesNumber bits default text n → GivesNumber bits default text m → n ≡ m
same_number bits default None n m h k = h ∙ sym k
same_number bits default (Some text) n m (inl h) (inl k) = h.1 ∙ sym k.1
same_number bits default (Some text) n m (inl h) (inr k) = absurd (k.0 h.0)
same_number bits default (Some text) n m (inr h) (inl k) = absurd (h.0 k.0)
same_number bits default (Some text) n m (inr h) (inr k) = h.1 ∙ sym k.1

same_asked : (rows : List Row) (a b : Conversation) → AsksTalk rows a → AsksTalk rows b → a ≡ b
same_asked rows a b h k =
    let nodes = same_number 16 3 _ a.nodes b.nodes h.nodes k.nodes in
    let clients = same_number 16 2 _ a.clients b.clients h.clients k.clients in
    let rounds = same_number 32 50 _ a.rounds b.rounds h.rounds k.rounds in
    let seed = same_number 64 1 _ a.seed b.seed h.seed k.seed in
    let turns = same_number 64 100000000 _ a.turns b.turns h.turns k.turns in
    let margin = h.margin ∙ sym k.margin in
    λ i. record { nodes = nodes i; clients = clients i; rounds = rounds i; seed = seed i; turns = turns i; margin = margin i }

-- there is one such conversation
pub same_talk : (m : Option (Text × List Row)) (a b : Talk) → IsThreads m a → IsThreads m b → a ≡ b
same_talk None a b h k = absurd h
same_talk (Some p) a b h k =
    let asked = same_asked p.1 a.asked b.asked h.1 k.1 in
    let json = h.2 ∙ sym k.2 in
    λ i. record { asked = asked i; is_json = json i }
