-- How much room the calls' buffers need. Definitions only.
use Rattle.std.specs.Prelude.{cond, ◌&&◌, ℕ}
use Rattle.layout.specs.Limits.{total_ok, block_ok}
use Rattle.layout.specs.Sizes as Layout

-- S of a clip, with x entries after those of its blocks; 0 where starting is refused by 4 or 6
unfoldable pub size_with : ℕ → ℕ → ℕ → ℕ
size_with n size x = cond (total_ok n && block_ok size) (Layout.image_size (Layout.shape n (Layout.cut_down size) x)) 0

-- without a loop
abbrev pub image_size : ℕ → ℕ → ℕ
image_size n size = size_with n size 0

-- with one
abbrev pub loop_image_size : ℕ → ℕ → ℕ
loop_image_size n size = size_with n size 1
