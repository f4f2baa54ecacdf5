-- Lines of a text, one after another.
use Rattle.std.proofs.Common.{◌≡◌, ◌≢◌, ℕ, ◌+◌, ◌<◌, ◌≤◌, List, [], ◌∷◌, length}
use Rattle.std.proofs.Common.{get_or, false, None, Ok, Err, sym, ap, ◌∙◌, arith}
use Rattle.std.proofs.lemmas.Bool.Decides.{nat_tests}
use Rattle.std.proofs.lemmas.List.Elements.{All-from_get_or}
use Rattle.std.proofs.lemmas.List.Splits.{slice_split_none, slice_split_first, length-slice_split}
use Rattle.std.proofs.lemmas.List.Sums.{count_by-le-length}
use Rattle.std.specs.Prelude.{◌==◌}
use Rattle.std.specs.List.{before_first, after_first, position_or_len}
use Rattle.pg_script.specs.declared.fault.LineFault.{LineFault}
use Rattle.pg_script.specs.Scripts.{Draft, Said, text_said, lines_said, goes_on, lines_in, finished, script_of}

-- ---- lines

other : (n : ℕ) → n ≢ 10 → (n == 10) ≡ false
other n h = grind (arith, nat_tests)

-- without a line feed there is one line
pub one_line : (text : List ℕ) → ((i : ℕ) → i < length text → get_or text i 0 ≢ 10) → lines_in text ≡ text ∷ []
one_line text none = slice_split_none (λ b. b == 10) text (All-from_get_or (λ b. (b == 10) ≡ false) text 0 (λ i h. other (get_or text i 0) (none i h)))

-- else the first one ends at the first line feed
pub more_lines : (text line rest : List ℕ) → position_or_len (λ b. b == 10) text < length text → line ≡ before_first (λ b. b == 10) text → rest ≡ after_first (λ b. b == 10) text → lines_in text ≡ line ∷ lines_in rest
more_lines text line rest h e f = slice_split_first (λ b. b == 10) text 0 h ∙ (λ i. sym e i ∷ lines_in (sym f i))

pub few_lines : (text : List ℕ) → length (lines_in text) ≤ length text + 1
few_lines text = omega (arith, length-slice_split (λ b. b == 10) text, count_by-le-length (λ b. b == 10) text)

-- ---- a walk over lines

-- nothing is said yet
abbrev pub empty : Draft
empty = record { ring = None; starts = []; lines = [] }

-- what all lines say is what those that are left say behind this
pub record Walked (text : List ℕ) (draft : Draft) (number : ℕ) (left : List (List ℕ)) : Type 0 where
  pub said : lines_said draft (number + 1) left ≡ lines_said empty 1 (lines_in text)
  pub count : number + length left ≡ length (lines_in text)

pub walked_first : (text : List ℕ) (draft : Draft) → draft ≡ empty → Walked text draft 0 (lines_in text)
walked_first text draft e = record { said = ap (λ (d : Draft). lines_said d 1 (lines_in text)) e; count = omega arith }

pub walked_on : (text : List ℕ) (draft new : Draft) (number : ℕ) (left behind : List (List ℕ)) (line : List ℕ) → Walked text draft number left → left ≡ line ∷ behind → text_said draft (number + 1) line ≡ Ok new → Walked text new (number + 1) behind
walked_on text draft new number left behind line walked first read = record {
  said = sym (ap (λ (s : Said). goes_on (number + 1) s (λ d. lines_said d (number + 1 + 1) behind)) read) ∙ sym (ap (lines_said draft (number + 1)) first) ∙ walked.said;
  count = let c = walked.count in let l = ap length first in omega arith;
}

pub walked_fault : (text : List ℕ) (draft : Draft) (number : ℕ) (left behind : List (List ℕ)) (line : List ℕ) (fault : LineFault) → Walked text draft number left → left ≡ line ∷ behind → text_said draft (number + 1) line ≡ Err fault
    → script_of text ≡ Err (record { line = number + 1; fault = fault })
walked_fault text draft number left behind line fault walked first read =
    ap finished (sym walked.said ∙ ap (lines_said draft (number + 1)) first ∙ ap (λ (s : Said). goes_on (number + 1) s (λ d. lines_said d (number + 1 + 1) behind)) read)

pub walked_over : (text : List ℕ) (draft : Draft) (number : ℕ) (left : List (List ℕ)) → Walked text draft number left → left ≡ [] → script_of text ≡ finished (Ok draft)
walked_over text draft number left walked over = ap finished (sym walked.said ∙ ap (lines_said draft (number + 1)) over)
