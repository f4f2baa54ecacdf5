-- The lines of a picture, as tags.
use Rattle.std.specs.Prelude.{ℕ, ◌+◌, ◌-◌, ◌/◌, ◌^◌, cond, nat_lt, min, List, [], ◌++◌, decimal, codes}
use Rattle.pg_script_diagram.specs.declared.data.Topic.{Topic}
use Rattle.pg_script_diagram.specs.declared.data.Topic.TheVariants.{Lock, Update, Reply, Free, End, Exchange}
use Rattle.pg_script_diagram.specs.declared.shapes.Point.{Point}

-- the end of a tag
abbrev pub CLOSED : List ℕ
CLOSED = codes "/>\n"

-- the end of the tag of a line that ends in the head of an arrow
abbrev pub head_of : List ℕ → List ℕ
head_of class = codes " marker-end=\"url(#" ++ class ++ codes ")\"/>\n"

-- a line of a class, and perhaps more classes, from one place to another; behind them its tag ends so
abbrev pub line_text : (class more : List ℕ) → (start end : Point) → List ℕ → List ℕ
line_text class more start end ending =
    codes "<line class=\"" ++ class ++ more ++ codes "\""
    ++ codes " x1=\"" ++ decimal start.x ++ codes "\" y1=\"" ++ decimal start.y ++ codes "\""
    ++ codes " x2=\"" ++ decimal end.x ++ codes "\" y2=\"" ++ decimal end.y ++ codes "\"" ++ ending

-- the class of an arrow, by its topic
abbrev pub class_of : Topic → List ℕ
class_of Lock = codes "lock"
class_of Update = codes "update"
class_of Reply = codes "reply"
class_of Free = codes "free"
class_of End = codes "end"
class_of Exchange = codes "exchange"

-- the tip of an arrow that comes from a place: two pixels before the lifeline
abbrev pub tip : Point → Point → Point
tip start end = record { x = cond (nat_lt start.x end.x) (end.x - 2) (min (end.x + 2) (2 ^ 128 - 1)); y = end.y }

-- a third of the way from one number to another
abbrev pub third : ℕ → ℕ → ℕ
third a b = cond (nat_lt a b) (a + (b - a) / 3) (a - (a - b) / 3)

-- a third of the way from one place to another
abbrev pub near : Point → Point → Point
near start end = record { x = third start.x end.x; y = third start.y end.y }

-- an arrow whose packet was taken
abbrev pub arrow_text : List ℕ → Point → Point → List ℕ
arrow_text class start end = line_text class [] start (tip start end) (head_of class)

-- a way that ends dashed, at this place
abbrev pub way_text : List ℕ → (start mid end : Point) → List ℕ
way_text class start mid end = line_text class [] start mid CLOSED ++ line_text class (codes " way") mid end CLOSED
