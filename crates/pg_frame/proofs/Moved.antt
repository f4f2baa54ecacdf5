-- Bytes that move stay in their order.
use Rattle.std.specs.Prelude.{◌≡◌, ℕ, List, [], ◌∷◌, ◌++◌, take, drop, refl}
use Rattle.std.proofs.Common.{sym, ap, ◌∙◌}
use Rattle.std.proofs.lemmas.List.{append_assoc, take-append-drop}
use Rattle.pg_frame.specs.Frames.{frame}
use Rattle.pg_frame.specs.Pieces.{Bytes, bytes_on_way, ring_put, pull, put_out, frames_of, ArePackets}

put-keeps : (count : ℕ) (b : Bytes) → bytes_on_way (ring_put count b) ≡ bytes_on_way b
put-keeps count b = ap (λ xs. b.came ++ xs)
    (append_assoc b.ring (take count b.outbox) (drop count b.outbox)
    ∙ ap (λ xs. b.ring ++ xs) (take-append-drop count b.outbox))

pull-keeps : (count : ℕ) (b : Bytes) → bytes_on_way (pull count b) ≡ bytes_on_way b
pull-keeps count b = append_assoc b.came (take count b.ring) (drop count b.ring ++ b.outbox)
    ∙ ap (λ xs. b.came ++ xs)
    (sym (append_assoc (take count b.ring) (drop count b.ring) b.outbox)
    ∙ ap (λ xs. xs ++ b.outbox) (take-append-drop count b.ring))

pub put_packets : {P : Type 0} (write : P → List ℕ) (packets : List P) (b : Bytes) (count : ℕ) → ArePackets write packets b → ArePackets write packets (ring_put count b)
put_packets write packets b count are = put-keeps count b ∙ are

pub pull_packets : {P : Type 0} (write : P → List ℕ) (packets : List P) (b : Bytes) (count : ℕ) → ArePackets write packets b → ArePackets write packets (pull count b)
pull_packets write packets b count are = pull-keeps count b ∙ are

pub frames-append : {P : Type 0} (write : P → List ℕ) (xs ys : List P) → frames_of write (xs ++ ys) ≡ frames_of write xs ++ frames_of write ys
frames-append write [] ys = refl
frames-append write (x ∷ xs) ys = ap (λ zs. frame (write x) ++ zs) (frames-append write xs ys)
    ∙ sym (append_assoc (frame (write x)) (frames_of write xs) (frames_of write ys))

pub sent_packets : {P : Type 0} (write : P → List ℕ) (packets others : List P) (b : Bytes) → ArePackets write packets b
    → ArePackets write (packets ++ others) (put_out (frames_of write others) b)
sent_packets write packets others b are =
    let more : List ℕ = frames_of write others in
    ap (λ xs. b.came ++ xs) (sym (append_assoc b.ring b.outbox more))
    ∙ sym (append_assoc b.came (b.ring ++ b.outbox) more)
    ∙ ap (λ xs. xs ++ more) are
    ∙ sym (frames-append write packets others)
