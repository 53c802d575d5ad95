-- Document 01's worked numbers, as one table. Definitions only.
use Rattle.std.specs.Prelude.{◌≡◌, List, [], ◌∷◌, ◌++◌, ℕ, ◌≤◌, ℤ, pos, negsuc, length, drop, replicate}
use Rattle.whole.specs.declared.History.{History}
use Rattle.frame.specs.Quantise.{quantise}
use Rattle.frame.specs.Worked.{alone, frame}
use Rattle.block.specs.Address.{address_to_sample, sample_to_address}
use Rattle.block.specs.Context.{predictor, scale, context_with}
use Rattle.block.specs.Play.{play}
use Rattle.whole.specs.Whole.{signed_nibble}
use Rattle.layout.specs.Sizes.{shape, no_loop, image_size}
use Rattle.clip.specs.declared.starting.Start.{Start}
use Rattle.clip.specs.Encoding.{start}
use Rattle.clip.specs.Runs.{feeds, closes, after}
use Rattle.image.specs.Sameness.{samples_in}

-- the starting history
abbrev pub silence : History
silence = record { newest = pos 0; older = pos 0 }

-- what the clip of that sample 9 is started with: "gain 0, rate 32,000, size 15"
abbrev pub of_nine : Start
of_nine = record { total = 1; rate = 32000; block = 15; gain = 0; coefficients = replicate 16 (pos 0); history = silence; looped = no_loop }

-- "That sample 9 as a clip"
abbrev pub nine : List ℕ
nine = 0x44 ∷ 0x53 ∷ 0x50 ∷ 0x43 ∷ 0x00 ∷ 0x00 ∷ 0x00 ∷ 0x01 ∷ 0x00 ∷ 0x00 ∷ 0x7D ∷ 0x00 ∷ 0x00 ∷ 0x00 ∷ 0x00 ∷ 0x08 ∷ (replicate 36 0
    ++ (0x00 ∷ 0x00 ∷ 0x00 ∷ 0x01 ∷ 0x00 ∷ 0x00 ∷ 0x00 ∷ 0x48 ∷ 0x00 ∷ 0x00 ∷ 0x00 ∷ 0x03 ∷ 0x00 ∷ 0x01 ∷ 0x00 ∷ 0x00 ∷ 0x00 ∷ 0x00 ∷ 0x00 ∷ 0x00 ∷ 0x01 ∷ 0x40 ∷ []))

-- one sample played from a header and a byte, with zero coefficients and history
abbrev pub heard : ℕ → ℕ → List ℤ
heard header byte = (play (header ∷ byte ∷ []) (replicate 16 (pos 0)) 3 (context_with header silence)).samples

pub record WorkedNumbers : Type 0 where
  -- "Address to sample: 0, 1, 2 → 0; 15 → 13; 16, 17, 18 → 14; 19 → 15"
  pub to-samples : (address_to_sample 0 ≡ 0) × (address_to_sample 1 ≡ 0) × (address_to_sample 2 ≡ 0) × (address_to_sample 15 ≡ 13) × (address_to_sample 16 ≡ 14) × (address_to_sample 17 ≡ 14)
      × (address_to_sample 18 ≡ 14) × (address_to_sample 19 ≡ 15)
  -- "Back: 0 → 2; 13 → 15; 14 → 18; 28 → 34"
  pub to-addresses : (sample_to_address 0 ≡ 2) × (sample_to_address 13 ≡ 15) × (sample_to_address 14 ≡ 18) × (sample_to_address 28 ≡ 34)
  -- "Header 9C: predictor 1, scale 4096. Nibbles 7, 8, 15: 7, −8, −1"
  pub headers : (predictor 0x9c ≡ 1) × (scale 0x9c ≡ 4096) × (signed_nibble 7 ≡ pos 7) × (signed_nibble 8 ≡ negsuc 7) × (signed_nibble 15 ≡ negsuc 0)
  -- "p = 0, D = 1024, 1025, −1024, −1025 → 0, 1, 0, −1. p = 12, D = 20,971,521 → 2"
  pub quantising : (quantise (pos 1024) 0 ≡ pos 0) × (quantise (pos 1025) 0 ≡ pos 1) × (quantise (negsuc 1023) 0 ≡ pos 0) × (quantise (negsuc 1024) 0 ≡ negsuc 0) × (quantise (pos 20971521) 12 ≡ pos 2)
  -- "Zero coefficients and history, one sample: 7 → 00 70; 8 → 00 70; −9 → 00 80 (played −8), 8 passes each; 9 → 01 40 (played 8), 16 passes"
  pub encoding : (alone (pos 7) ≡ frame 0x00 0x70 8 (pos 7)) × (alone (pos 8) ≡ frame 0x00 0x70 8 (pos 7)) × (alone (negsuc 8) ≡ frame 0x00 0x80 8 (negsuc 7))
      × (alone (pos 9) ≡ frame 0x01 0x40 16 (pos 8))
  -- "(played −8)", "(played 8)"
  pub playing : (heard 0x00 0x80 ≡ negsuc 7 ∷ []) × (heard 0x01 0x40 ≡ pos 8 ∷ [])
  -- "S: N = 1, 74; N = 14, 80", with any B of 8 bytes or more; "N = 15, 98 with B = 8, 82 with B = 16"
  pub sizes-any : (b : ℕ) → 8 ≤ b → (image_size (shape 1 b 0) ≡ 74) × (image_size (shape 14 b 0) ≡ 80)
  pub sizes : (image_size (shape 15 8 0) ≡ 98) × (image_size (shape 15 16 0) ≡ 82)
  -- the image of that sample 9, in any buffer that has room for it; and what is heard of it
  pub image : (l : List ℕ) → 74 ≤ length l → (after (start of_nine l).left (feeds (pos 9 ∷ []) ∷ closes ∷ [])).bytes ≡ nine ++ drop 74 l
  pub sound : samples_in nine ≡ pos 8 ∷ []
