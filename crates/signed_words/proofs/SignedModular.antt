-- The claims on inverse letters and signed words hold for the integers modulo N ≥ 1, and so for words, with r = q - 1 and r' = q' - 1.
-- Rests on SignedWords, CarrySigned, ClosedSigned, and ring's and algebra's Modular.
use mathlib.Core.Path.{◌≡◌}
use Prim.Native.Nat.{ℕ, ◌^◌, ◌<◌}
use Rattle.ring.specs.Modular.{modular, words, Residue, residues}
use Rattle.ring.proofs.Modular.{residues_ring, same_number, number_hom, words_pos}
use Rattle.algebra.specs.Product.{minus_one}
use Rattle.algebra.proofs.Modular.{numbers, below, one_less}
use Rattle.signed_words.specs.InverseLetter.{Inverted}
use Rattle.signed_words.specs.Laws.{Signed, SignedClosed}
use Rattle.signed_words.proofs.SignedWords.{signed}
use Rattle.signed_words.proofs.CarrySigned.{carry_signed}
use Rattle.signed_words.proofs.ClosedSigned.{closed_signed}

module _ (N : ℕ) (pos : 0 < N) (m : ℕ) {q r q' r' : ℕ} (hq : q < N) (hr : r < N) (hq' : q' < N) (hr' : r' < N) where
  pub modular_signed : Inverted ℕ (modular N) q r q' r' → Signed ℕ (modular N) q r q' r' (λ n. n < N) m
  modular_signed v = carry_signed (number_hom N pos) (q, hq) (r, hr) (q', hq') (r', hr') (numbers N) m
      (signed (Residue N) (residues N pos) (residues_ring N pos) inverted m)
    where
      inverted : Inverted (Residue N) (residues N pos) (q, hq) (r, hr) (q', hq') (r', hr')
      inverted = unfold residues in record { product = same_number N v.product; less = same_number N v.less; less' = same_number N v.less' }

  pub modular_signed_closed : SignedClosed ℕ (modular N) q r q' r' (λ n. n < N) m
  modular_signed_closed = closed_signed (number_hom N pos) (q, hq) (r, hr) (q', hq') (r', hr') (numbers N) (λ a. a.1) m

-- ---- words

module _ (m : ℕ) {q q' : ℕ} (hq : q < 2 ^ 64) (hq' : q' < 2 ^ 64) where
  abbrev r : ℕ
  r = minus_one ℕ words q

  abbrev r' : ℕ
  r' = minus_one ℕ words q'

  word_inverted : words.mul q q' ≡ words.one → Inverted ℕ words q r q' r'
  word_inverted e = record { product = e; less = one_less q hq; less' = one_less q' hq' }

  pub word_signed : words.mul q q' ≡ words.one → Signed ℕ words q r q' r' (λ n. n < 2 ^ 64) m
  word_signed e = modular_signed (2 ^ 64) words_pos m hq (below q) hq' (below q') (word_inverted e)

  pub word_signed_closed : SignedClosed ℕ words q r q' r' (λ n. n < 2 ^ 64) m
  word_signed_closed = modular_signed_closed (2 ^ 64) words_pos m hq (below q) hq' (below q')
