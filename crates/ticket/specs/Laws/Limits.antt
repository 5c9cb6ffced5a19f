-- What a setting within its limits gives.
--
--   Sizes G                the sizes are within their limits, as inequalities
--   Numbers G              scale, bound and width are within theirs
--   Fitted G               the setting fits, as inequalities
--   lift G                 half of the quotients' range times the scale, and the rounding number: with it added, neither a sum nor what a
--                          claim puts for it is negative, and the sum is ready to be divided
--   renumbered G s v o     the setting G with another number of vectors, width and rounding number
--   clamped G              the setting with no size, scale or width above its limit
--   fits_by G h, number_by G h   the fit and the number of the setting, where h is put for half of the quotients' range
use Rattle.std.specs.Prelude.{ℕ, ◌+◌, ◌-◌, ◌*◌, ◌^◌, ◌<◌, ◌≤◌, min, Bool, ◌&&◌, nat_le, nat_lt}
use Rattle.residue.specs.Rules.{modulus}
use Rattle.ticket.specs.declared.setting.Setting.{Setting}
use Rattle.ticket.specs.Rules.{unless, most_rows, most_inner, most_columns, most_vectors, most_scale, most_bound, most_width, bias_within, rounding_within, reach, half_range, sizes_within, numbers_within, sum_products, bias_columns}

pub record Sizes (G : Setting) : Type 0 where
  pub rows : (1 ≤ G.rows) × (G.rows ≤ most_rows)
  pub inner : (1 ≤ G.inner) × (G.inner ≤ most_inner)
  pub columns : (1 ≤ G.columns) × (G.columns ≤ most_columns)
  pub vectors : (1 ≤ G.vectors) × (G.vectors ≤ most_vectors)

pub record Numbers (G : Setting) : Type 0 where
  pub scale : (2 ≤ G.scale) × (G.scale ≤ most_scale)
  pub bound : (1 ≤ G.bound) × (G.bound ≤ most_bound)
  pub width : (1 ≤ G.width) × (G.width ≤ most_width)

pub record Fitted (G : Setting) : Type 0 where
  pub sums : reach G + G.rounding + G.scale - 1 ≤ half_range G * G.scale
  pub claims : 2 ^ G.width * G.scale < modulus

-- the records of A, of B and of the claims, and the numbers of a challenge list: none are many
pub record Counts (G : Setting) : Type 0 where
  pub sizes : Sizes G
  pub entries_a : G.rows * G.inner ≤ most_rows * most_inner
  pub entries_b : G.inner * G.columns ≤ most_inner * most_columns
  pub claims : G.rows * G.columns ≤ most_rows * most_columns
  pub bias : G.rows * bias_columns G ≤ most_rows * most_columns
  pub challenges : G.vectors * G.columns ≤ most_vectors * most_columns
  pub products : sum_products G ≤ most_rows * most_inner * most_columns

pub record Within (G : Setting) : Type 0 where
  pub sizes : Sizes G
  pub numbers : Numbers G
  pub fitted : Fitted G

abbrev pub lift : Setting → ℕ
lift G = half_range G * G.scale + G.rounding

abbrev pub renumbered : Setting → ℕ → ℕ → ℕ → Setting
renumbered G s v o =
    record {
      rows = G.rows;
      inner = G.inner;
      columns = G.columns;
      vectors = s;
      scale = G.scale;
      bound = G.bound;
      width = v;
      rounding = o;
      bias = G.bias;
    }

unfoldable pub clamped : Setting → Setting
clamped G =
    record {
      rows = min G.rows most_rows;
      inner = min G.inner most_inner;
      columns = min G.columns most_columns;
      vectors = G.vectors;
      scale = min G.scale most_scale;
      bound = G.bound;
      width = min G.width most_width;
      rounding = G.rounding;
      bias = G.bias;
    }

abbrev pub fits_by : Setting → ℕ → Bool
fits_by G half = nat_le (reach G + G.rounding + G.scale - 1) (half * G.scale) && nat_lt (2 * (half * G.scale)) modulus

unfoldable pub number_by : Setting → ℕ → ℕ
number_by G half =
    unless (sizes_within G) 1
    (unless (numbers_within G) 2 (unless (bias_within G) 17 (unless (rounding_within G) 19 (unless (fits_by G half) 3 0))))

pub record Clamped (G : Setting) : Type 0 where
  pub entries_a : G.rows * G.inner ≤ most_rows * most_inner
  pub entries_b : G.inner * G.columns ≤ most_inner * most_columns
  pub claims : G.rows * G.columns ≤ most_rows * most_columns
  pub bias : G.rows * bias_columns G ≤ most_rows * most_columns
  pub products : sum_products G ≤ most_rows * most_inner * most_columns
  pub width : G.width ≤ most_width
  pub scale : G.scale ≤ most_scale
