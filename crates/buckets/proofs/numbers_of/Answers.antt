-- Each row is a byte of half the words, and so a byte of the words.
use Rattle.std.proofs.Common.{arith, ◌≡◌, ◌∙◌, ◌*◌, ◌/◌, ◌%◌, ℕ, List, get_or, ap}
use Rattle.std.proofs.Math.Nat.{div-div-eq-div-mul}
use Rattle.buckets.specs.Bridge.{eight, byte_of, word_of, numbers, numbers_of}
use Rattle.buckets.proofs.numbers_of.Goals as goal

-- a byte of half a word, as a byte of the word
low_byte : (w unit : ℕ) → byte_of (w / unit % 65_536) 1 ≡ byte_of w unit
low_byte w unit = omega arith

high_byte : (w unit : ℕ) → byte_of (w / unit % 65_536) 256 ≡ byte_of w (unit * 256)
high_byte w unit =
    let byte : byte_of (w / unit % 65_536) 256 ≡ w / unit / 256 % 256 = omega arith in
    byte ∙ ap (λ (q : ℕ). q % 256) (div-div-eq-div-mul w unit 256)

pub returns : goal.returns
unfolding numbers_of
returns c =
    let word : ℕ → ℕ = word_of c.args.b.sets c.args.b.assigned in
    let low = c.halves-lower.ensures in
    let high = c.halves-upper.ensures in
    let bytes : List ℕ → ℕ → List ℕ = λ row unit. eight (λ k. byte_of (get_or row k 0) unit) in
    (λ i. numbers (c.bytes_of.ensures i) (c.bytes_of-2.ensures i) (c.bytes_of-3.ensures i) (c.bytes_of-4.ensures i))
    ∙ (λ i. numbers (bytes (low i) 1) (bytes (low i) 256) (bytes (high i) 1) (bytes (high i) 256))
    ∙ (λ i. numbers (eight (λ k. low_byte (word k) 1 i)) (eight (λ k. high_byte (word k) 1 i)) (eight (λ k. low_byte (word k) 65_536 i))
    (eight (λ k. high_byte (word k) 65_536 i)))
