-- The first bad entry of an image. Definitions only.
use Rattle.std.specs.Prelude.{true, false, List, [], ◌⊎◌, ◌≢◌, ◌≡◌, ℕ, ◌<◌, ℤ, get_or}
use Rattle.whole.specs.Outcome.{accepted, refused_at}
use Rattle.layout.specs.declared.Shape.{Shape}
use Rattle.layout.specs.Sizes.{block_offset, block_length}
use Rattle.image.specs.Reading.{shape_in, blocks_in, offset_in, length_in, header_in, entry_zero_in, loop_in}
use Rattle.image.specs.Opening.{EntryFits, LoopRight, head_ok, open_image}
use Rattle.image.specs.Bodies.{block_answer, block_body}
use Rattle.image.specs.Looping.{play_loop}
use Rattle.image.specs.Part.{play_from}
use Rattle.image.specs.Playing.{play}
use Rattle.image.specs.WholeImage.{play_all}
use Rattle.image.specs.Sameness.{compare_answer, same, sounds_same}

-- the first of the codes 20, 21 and 22 that applies in an entry
pub data FirstCode (l : List ℕ) (s : Shape) (j : ℕ) : ℕ → Type 0 where
  bad-offset : offset_in l j ≢ block_offset s j → FirstCode l s j 20
  bad-length : offset_in l j ≡ block_offset s j → (length_in l j ≢ block_length s j) ⊎ (entry_zero_in l j ≢ 0) → FirstCode l s j 21
  bad-header : offset_in l j ≡ block_offset s j → length_in l j ≡ block_length s j → entry_zero_in l j ≡ 0 → header_in l j ≢ get_or l (block_offset s j) 0 → FirstCode l s j 22

-- of an image whose head 15 does not refuse: block j's entry is the first that is not as it should be, and n the first code that applies in it
pub record FirstBad (l : List ℕ) (n j : ℕ) : Type 0 where
  pub head : head_ok l ≡ true
  pub block : j < blocks_in l
  pub before : (i : ℕ) → i < j → EntryFits l (shape_in l) i
  pub code : FirstCode l (shape_in l) j n

-- why an image does not open: its head, by 15 and with no block; its first bad entry; or its loop, by 24 and with no block, where head and entries are as they should be
pub data NotOpened (l : List ℕ) : ℕ → ℕ → Type 0 where
  bad-head : head_ok l ≡ false → NotOpened l 15 0
  bad-entry : {n j : ℕ} → FirstBad l n j → NotOpened l n j
  bad-loop : head_ok l ≡ true → ((j : ℕ) → j < blocks_in l → EntryFits l (shape_in l) j) → (loop_in l).present ≡ true → (LoopRight l → ⊥) → NotOpened l 24 0

-- every call on image l is refused by n and names block j, and there is no body; so is comparing l with an image m, or their sound, and m with l where comparing accepts m
pub record RefusedAlike (l m : List ℕ) (n j k : ℕ) (out : List ℤ) : Type 0 where
  pub opening : (open_image l).outcome ≡ refused_at n j
  pub finding : block_answer l k ≡ refused_at n j
  pub body : block_body l k ≡ []
  pub playing : (play l k out).outcome ≡ refused_at n j
  pub playing-all : (play_all l out).outcome ≡ refused_at n j
  pub playing-from : (first : ℕ) → (play_from l first out).outcome ≡ refused_at n j
  pub playing-loop : (times : ℕ) → (play_loop l times out).outcome ≡ refused_at n j
  pub comparing : same l m ≡ refused_at n j
  pub comparing-second : compare_answer m ≡ accepted tt → same m l ≡ refused_at n j
  pub comparing-sound : sounds_same l m ≡ refused_at n j
  pub comparing-sound-second : compare_answer m ≡ accepted tt → sounds_same m l ≡ refused_at n j
