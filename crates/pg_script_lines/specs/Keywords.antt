-- The first word of a line.
use Rattle.std.specs.Prelude.{ℕ, List, [], ◌∷◌, codes, Option, Some, None, option_map, if◌then◌else◌}
use Rattle.std.specs.Option.{option_or}
use Rattle.std.specs.Str.{bytes_eq}
use Rattle.pg_script_lines.specs.declared.keyword.Keyword.{Keyword}
use Rattle.pg_script_lines.specs.declared.keyword.Keyword.TheVariants.{Ring, Node, Has, Settle, History, Pair, At}
use Rattle.pg_script_lines.specs.declared.keyword.PairKeyword.{PairKeyword}
use Rattle.pg_script_lines.specs.declared.keyword.PairKeyword.TheVariants as pair
use Rattle.pg_script_lines.specs.declared.keyword.NodeKeyword.{NodeKeyword}
use Rattle.pg_script_lines.specs.declared.keyword.NodeKeyword.TheVariants as node

abbrev pub pair_keyword_text : PairKeyword → List ℕ
pair_keyword_text pair.Put = codes "put"
pair_keyword_text pair.Pull = codes "pull"
pair_keyword_text pair.Take = codes "take"
pair_keyword_text pair.Outbox = codes "outbox"
pair_keyword_text pair.SeeLoss = codes "seeloss"

abbrev pub node_keyword_text : NodeKeyword → List ℕ
node_keyword_text node.Create = codes "create"
node_keyword_text node.Delete = codes "delete"
node_keyword_text node.Join = codes "join"
node_keyword_text node.Leave = codes "leave"
node_keyword_text node.Make = codes "make"
node_keyword_text node.End = codes "end"
node_keyword_text node.Members = codes "members"
node_keyword_text node.Local = codes "local"
node_keyword_text node.Groups = codes "groups"
node_keyword_text node.Closest = codes "closest"
node_keyword_text node.Retry = codes "retry"
node_keyword_text node.Lock = codes "lock"
node_keyword_text node.Lose = codes "lose"

abbrev pub keyword_text : Keyword → List ℕ
keyword_text Ring = codes "ring"
keyword_text Node = codes "node"
keyword_text Has = codes "has"
keyword_text Settle = codes "settle"
keyword_text History = codes "history"
keyword_text (Pair keyword) = pair_keyword_text keyword
keyword_text (At keyword) = node_keyword_text keyword

-- ---- the keyword of a text

-- which of these keywords has this text, if one has
abbrev pub keyword_among : {K : Type 0} → (K → List ℕ) → List K → List ℕ → Option K
keyword_among text [] word = None
keyword_among text (keyword ∷ keywords) word = if bytes_eq word (text keyword) then Some keyword else keyword_among text keywords word

abbrev pub node_keyword_of : List ℕ → Option NodeKeyword
node_keyword_of = keyword_among node_keyword_text
    (node.Create ∷ node.Delete ∷ node.Join ∷ node.Leave ∷ node.Make ∷ node.End ∷ node.Members ∷ node.Local ∷ node.Groups ∷ node.Closest ∷ node.Retry ∷ node.Lock ∷ node.Lose ∷ [])

abbrev pub other_keyword_of : List ℕ → Option Keyword
other_keyword_of = keyword_among keyword_text
    (Ring ∷ Node ∷ Has ∷ Settle ∷ History ∷ Pair pair.Put ∷ Pair pair.Pull ∷ Pair pair.Take ∷ Pair pair.Outbox ∷ Pair pair.SeeLoss ∷ [])

abbrev pub keyword_of : List ℕ → Option Keyword
keyword_of word = option_or (other_keyword_of word) (option_map At (node_keyword_of word))
