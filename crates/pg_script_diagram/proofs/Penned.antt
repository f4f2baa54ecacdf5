-- Texts that a pen writes one after another.
use Rattle.std.proofs.Common.{◌≡◌, ℕ, List, [], ◌++◌, append_assoc, ap, ◌∙◌}
use Rattle.std.specs.Prelude.{codes, decimal}
use Rattle.std.proofs.lemmas.List.{append-nil}
use Rattle.pg_script_diagram.specs.declared.pen.Pen.{Pen}
use Rattle.pg_script_diagram.specs.declared.shapes.Point.{Point}
use Rattle.pg_script_diagram.specs.Lines.{line_text}
use Rattle.pg_script_diagram.specs.Pens.{Writes, written}

pub wrote_both : (x y : List ℕ) (a b c : Pen) → Writes x a b → Writes y b c → Writes (x ++ y) a c
wrote_both x y a b c first second enough =
    let later = second enough in
    let before = first later.0 in
    (before.0, later.1 ∙ ap (λ t. t ++ y) before.1 ∙ append_assoc (written a) x y)

pub wrote_as : (x y : List ℕ) (a b : Pen) → x ≡ y → Writes x a b → Writes y a b
wrote_as x y a b same wrote enough = let it = wrote enough in (it.0, it.1 ∙ ap (λ t. written a ++ t) same)

-- the tag of a line, and its end
pub line_ends : (class more : List ℕ) (start end : Point) (ending : List ℕ) → line_text class more start end [] ++ ending ≡ line_text class more start end ending
line_ends class more start end ending = simp append_assoc

-- the parts of such a tag: its classes, and two numbers
abbrev pub class_text : (class more : List ℕ) → List ℕ
class_text class more = codes "<line class=\"" ++ class ++ more ++ codes "\""

abbrev pub places_text : (first second x y : List ℕ) → List ℕ
places_text first second x y = first ++ x ++ second ++ y ++ codes "\""

parts : (line class more quote x1 a y1 b x2 c y2 d : List ℕ) → (line ++ class ++ more ++ quote) ++ ((x1 ++ a ++ y1 ++ b ++ quote) ++ (x2 ++ c ++ y2 ++ d ++ quote))
    ≡ line ++ class ++ more ++ quote ++ x1 ++ a ++ y1 ++ b ++ quote ++ x2 ++ c ++ y2 ++ d ++ quote ++ []
parts line class more quote x1 a y1 b x2 c y2 d = simp (append_assoc, append-nil)

pub parts_of_line : (class more : List ℕ) (start end : Point) → class_text class more ++ (places_text (codes " x1=\"") (codes "\" y1=\"") (decimal start.x) (decimal start.y) ++ places_text (codes " x2=\"") (codes "\" y2=\"") (decimal end.x) (decimal end.y))
    ≡ line_text class more start end []
parts_of_line class more start end =
    parts (codes "<line class=\"") class more (codes "\"") (codes " x1=\"") (decimal start.x) (codes "\" y1=\"") (decimal start.y) (codes " x2=\"") (decimal end.x) (codes "\" y2=\"") (decimal end.y)
