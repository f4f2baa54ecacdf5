-- What is said, as a list of outputs.
use Rattle.std.proofs.Common.{◌≡◌, ◌∙◌, ◌≤◌, ℕ, ◌+◌, List, [], ◌∷◌, ◌++◌, get_or, length, drop, take, zero, suc, ◌-◌, Option, Some, None, IfSome, inl, inr, refl, sym, ap, subst, append-nil, arith}
use Rattle.std.specs.Option.{option_map, unwrap_or}
use Rattle.std.specs.Prelude.{IfNone}
use Rattle.std.specs.List.{AllByRecursion, flat_map}
use Rattle.pg_term.specs.declared.term.Term.{Term}
use Rattle.pg_node_process.specs.Outputs.{IsFramed, IsUntellable, Output, Said, Says, SaysReply, untold, said as bytes_said}
use Rattle.pg_node_requests.specs.Replies.{numbered_term}
use Rattle.pg_node.specs.PgGroup.Table.{Table}
use Rattle.pg_node.specs.PgStep.Commands.{Reads}
use Rattle.pg_node.specs.PgStep.declared.answer.Reply.{Reply}
use Rattle.pg_node.specs.PgStep.declared.command.Command.{Command}
use Rattle.pg_node_process.specs.declared.desk.Numbered.{Numbered}
use Rattle.pg_process.specs.Deeds.{IsReply, Tells, number_of}
use Rattle.pg_process.specs.Situations.{Setting, own_of}

one : (before after : List ℕ) (output : Output) → Says before after output → after ≡ before ++ flat_map bytes_said (output ∷ [])
one before after output says = says.wrote ∙ ap (λ w. before ++ w) (sym (append-nil (bytes_said output)))

pub reply_said : (set : Setting) (port number : ℕ) (reply : Term) (before after : List ℕ) → SaysReply before after (own_of set) (port + 1) number reply
    → (x : List Output) × IsReply set port number reply x × AllByRecursion IsFramed x × (after ≡ before ++ flat_map bytes_said x)
reply_said set port number reply before after (inl says) =
    let output = Said (numbered_term (own_of set) (port + 1) number reply) in
    (output ∷ [], inl refl, (says.framed, tt), one before after output says)
reply_said set port number reply before after (inr (long, says)) =
    let output = untold (own_of set) (port + 1) number reply in
    (output ∷ [], inr (long, refl), (says.framed, tt), one before after output says)

pub notice_said : (term : Term) (before after : List ℕ) (told : Option ℕ) → IfNone told (Says before after (Said term)) → IfSome told (λ fault. IsUntellable term) → IfSome told (λ fault. after ≡ before)
    → (x : List Output) × Tells term x × AllByRecursion IsFramed x × (after ≡ before ++ flat_map bytes_said x)
notice_said term before after None says long kept = (Said term ∷ [], inl refl, (says.framed, tt), one before after (Said term) says)
notice_said term before after (Some fault) says long kept = ([], inr (long, refl), tt, kept ∙ sym (append-nil before))

-- a query reads the same of the same table
pub same_reads : (own own2 : List ℕ) (query : Command) (t t2 : Table) (reply : Reply) → own ≡ own2 → t ≡ t2 → Reads own query t reply → Reads own2 query t2 reply
same_reads own own2 query t t2 reply e f reads = subst (λ (t : Table). Reads own2 query t reply) f (subst (λ (own : List ℕ). Reads own query t reply) e reads)

-- the number of a change
pub number_is : (change : Option Numbered) → unwrap_or (option_map (λ (n : Numbered). n.number) change) 0 ≡ number_of change
number_is None = refl
number_is (Some change) = refl

-- the first of some, and those behind it
pub first_is : {A : Type 0} (xs : List A) (x : A) → 1 ≤ length xs → x ≡ get_or xs 0 x → xs ≡ x ∷ drop 1 xs
first_is [] x some e = absurd (omega (arith, some))
first_is (y ∷ xs) x some e = ap (λ z. z ∷ xs) (sym e)

-- all bytes but the first
take_whole : {A : Type 0} (n : ℕ) (xs : List A) → length xs ≤ n → take n xs ≡ xs
take_whole zero [] low = refl
take_whole zero (x ∷ xs) low = absurd (omega (arith, low))
take_whole (suc n) [] low = refl
take_whole (suc n) (x ∷ xs) low = ap (λ ys. x ∷ ys) (take_whole n xs (omega (arith, low)))

pub behind_first : {A : Type 0} (xs : List A) → take (length xs - 1) (drop 1 xs) ≡ drop 1 xs
behind_first [] = refl
behind_first (x ∷ xs) = take_whole (length (x ∷ xs) - 1) xs (omega arith)
