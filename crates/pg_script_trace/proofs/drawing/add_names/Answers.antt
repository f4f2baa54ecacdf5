use Rattle.std.proofs.Common.{ℕ, ◌++◌, [], ◌∷◌, List, String, Global}
use Rattle.std.proofs.Common.{append_assoc, map, string_bytes, take, ap, sym, ◌∙◌}
use Rattle.std.proofs.lemmas.List.{append-nil, take_all}
use Rattle.pg_script_trace.proofs.Listing.{map_more, map_pushed}
use Rattle.pg_script_trace.proofs.drawing.add_names.Goals as goal

pub loop-place-init : goal.loop-place-init
loop-place-init c = sym (append-nil (map string_bytes c.args.nodes.now.items))

pub loop-place-preserved : goal.loop-place-preserved
loop-place-preserved c =
    let names = c.args.names.now in
    let before = map string_bytes c.args.nodes.now.items in
    ap (map string_bytes) c.in_ok-push.ensures.items
    ∙ map_pushed string_bytes c.loop-place.nodes.items c.in_ok-clone.field-0
    ∙ ap (λ (text : List ℕ). map string_bytes c.loop-place.nodes.items ++ text ∷ []) c.in_ok-clone.ensures.cases
    ∙ ap (λ (done : List (List ℕ)). done ++ string_bytes c.index-names-place.result ∷ []) c.loop-place.invariant
    ∙ append_assoc before (map string_bytes (take c.loop-place.place names)) (string_bytes c.index-names-place.result ∷ [])
    ∙ ap (λ (done : List (List ℕ)). before ++ done) (map_more string_bytes names c.loop-place.place c.index-names-place.result c.loop-place-test.true c.index-names-place.is)

pub returns : goal.returns
returns c =
    c.loop-place.invariant
    ∙ ap (λ (xs : List (String Global)). map string_bytes c.args.nodes.now.items ++ map string_bytes xs) (take_all c.loop-place.place c.args.names.now c.loop-place-test.false)
